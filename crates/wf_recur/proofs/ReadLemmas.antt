-- The interval of a recurrence that was read.
use Rattle.std.proofs.Common.{◌≡◌, ℕ, ◌≤◌, Bool, true, false, cond, ◌&&◌, List, Option, Some, None, Result, Ok, Err, pos, negsuc, refl}
use Rattle.std.proofs.Common.{subst, arith}
use Rattle.std.specs.Prelude.{codes, nat_le, unwrap_or}
use Rattle.std.proofs.lemmas.Bool.{and_parts, leb-true}
use Rattle.wf_json.specs.Pointer.{least}
use Rattle.wf_places.specs.Form.{places}
use Rattle.wf_val.specs.Get.{get}
use Rattle.wf_val.specs.ValueTree.{ValueTree, null, boolean, number, text, list, object}
use Rattle.wf_recur.specs.Moments.{moments_due}
use Rattle.wf_recur.specs.Next.{AreNext}
use Rattle.wf_recur.specs.Reading.{in_zone, interval_or_one, is_recurrence, is_utc, meant, member_of, of_form, recurrence_of, text_in}
use Rattle.wf_recur.specs.RecurrenceForm.{recurrence_form}
use Rattle.wf_recur.specs.declared.fault.RecurrenceFault.{RecurrenceFault}
use Rattle.wf_recur.specs.declared.part.Part.{Part}
use Rattle.wf_recur.specs.declared.recurrence.Recurrence.{Recurrence}
use Rattle.wf_recur.proofs.ListedLemmas.{listed-next}

one-if : (t : Bool) (n : ℕ) → (t ≡ true → 1 ≤ n) → 1 ≤ unwrap_or (cond t (Some n) None) 1
one-if true n from = from refl
one-if false n from = omega arith

interval-from : (m : Option ValueTree) → 1 ≤ interval_or_one m
interval-from None = omega arith
interval-from (Some null) = omega arith
interval-from (Some (boolean b)) = omega arith
interval-from (Some (number (pos n))) =
    one-if (nat_le 1 n && nat_le n 9999999) n (λ is. leb-true 1 n (and_parts (nat_le 1 n) (nat_le n 9999999) is).0)
interval-from (Some (number (negsuc n))) = omega arith
interval-from (Some (text s)) = omega arith
interval-from (Some (list ts)) = omega arith
interval-from (Some (object ms)) = omega arith

abbrev read : Recurrence → Result Recurrence RecurrenceFault
read r = Ok r

meant-from : (v : Option ValueTree) (r : Recurrence) → read (meant v) ≡ read r → 1 ≤ r.interval
meant-from v r is =
    let same : meant v ≡ r = cc in
    let P : Recurrence → Type 0 = λ r. 1 ≤ r.interval in
    subst P same (interval-from (member_of (codes "interval") v))

zone-if : (t : Bool) (v : Option ValueTree) (name : List ℕ) (r : Recurrence)
    → cond t (read (meant v)) (Err (RecurrenceFault.Zone name)) ≡ read r → 1 ≤ r.interval
zone-if true v name r is = meant-from v r is
zone-if false v name r is = absurd cc

zone-from : (v : Option ValueTree) (zone : Option (List ℕ)) (r : Recurrence) → in_zone v zone ≡ Ok r → 1 ≤ r.interval
zone-from v None r is = meant-from v r is
zone-from v (Some name) r is = zone-if (is_utc name) v name r is

form-from : (t : ValueTree) (place : Option (List ℕ)) (r : Recurrence) → of_form t place ≡ Ok r → 1 ≤ r.interval
form-from t (Some pointer) r is = absurd cc
form-from t None r is =
    zone-from (get (codes "recurrence") t) (text_in (member_of (codes "timeZone") (get (codes "recurrence") t))) r is

type-if : (b : Bool) (t : ValueTree) (place : Option (List ℕ)) (r : Recurrence)
    → cond b (of_form t place) (Err RecurrenceFault.NotRecurrence) ≡ Ok r → 1 ≤ r.interval
type-if true t place r is = form-from t place r is
type-if false t place r is = absurd cc

read-from : (t : ValueTree) (r : Recurrence) → recurrence_of t ≡ Ok r → 1 ≤ r.interval
read-from t r is = type-if (is_recurrence (get (codes "type") t)) t (least (places recurrence_form Part.Trigger t)) r is

pub read-next : (t : ValueTree) (r : Recurrence) (from n : ℕ) → recurrence_of t ≡ Ok r
    → AreNext r from n (moments_due r from n)
read-next t r from n is = listed-next r from n (read-from t r is)
