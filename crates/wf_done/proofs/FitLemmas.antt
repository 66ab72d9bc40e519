-- What an action keeps fits: whatever its kind makes is measured last.
use Rattle.std.proofs.Common.{◌≡◌, ℕ, Bool, true, false, List, [], ◌∷◌, ◌++◌, Option, Some, None, Result, Ok, Err, refl, subst, arith}
use Rattle.std.specs.Prelude.{ℤ, ◌+ℤ◌, ◌-ℤ◌, codes, if◌then◌else◌}
use Rattle.wf_val.specs.Arguments.{Answer, fits_i64, given, wrong_type}
use Rattle.wf_val.specs.ValueTree.{ValueTree, null, number, text, list, trees, items, Fits}
use Rattle.wf_val.specs.declared.fault.EvalFault.{EvalFault}
use Rattle.wf_val.specs.declared.function.Fun.{Fun}
use Rattle.wf_schema.specs.Json as json_text
use Rattle.wf_retry.specs.declared.policy.Policy.{Policy}
use Rattle.wf_schema.specs.Reading.{SchemaTree}
use Rattle.wf_template.specs.DataTree.{DataTree}
use Rattle.wf_def.specs.ActionTree.{KindTree, compose, connector, wait, response, terminate, select, query, join, parse_json}
use Rattle.wf_def.specs.ActionTree.{initialize, set_to, increment, decrement, append_array, append_string}
use Rattle.wf_variables.specs.Looked.{or_no_value}
use Rattle.wf_variables.specs.Outcomes.{Outcome, all_after}
use Rattle.wf_variables.specs.Told.{Told}
use Rattle.wf_variables.proofs.Fitting.{IsGood, bounded-good}
use Rattle.wf_variables.specs.TreeValue.{tree_value}
use Rattle.wf_connect.specs.RunStatus.{RunStatus}
use Rattle.wf_variables.specs.Lists.{items_from, join_inputs, join_of, joined, keeps, kept_after}
use Rattle.wf_variables.specs.Lists.{made_of_list, over_each, queried, selected}
use Rattle.wf_variables.specs.Made.{MadeTree, fitting, followed, goes_on, one_member}
use Rattle.wf_variables.specs.Parsed.{made_of_content, parsed}
use Rattle.wf_variables.specs.Simple.{run_status_of, terminated}
use Rattle.wf_variables.specs.Initials.{ItemsTree, body_of, given_item, initials_after, made_of_items}
use Rattle.wf_variables.specs.Sorts.{are_alike}
use Rattle.wf_variables.specs.Writing as writing
use Rattle.wf_variables.specs.Writing.{Change, amount, changed, moved, written}
use Rattle.wf_done.specs.Done.{faulted, succeeded}
use Rattle.wf_done.specs.Kept.{AreFitting, KeepsFitting}
use Rattle.wf_done.specs.Leaf.{begun_from, called_with, done_of, judged, made_by, unless_at}

-- what is made fits
abbrev IsGoodMade : Result MadeTree EvalFault → Type 0
IsGoodMade r = (m : MadeTree) → r ≡ Ok m → Fits m.inputs × Fits m.outputs

fault-good : (f : EvalFault) → IsGoodMade (Err f)
fault-good f m e = absurd cc

both-good : (a b : Answer) → IsGood a → IsGood b →
    IsGoodMade (given a (λ i. given b (λ o. Ok (record { inputs = i; outputs = o }))))
both-good (Ok i) (Ok o) f g m e =
    let made : MadeTree = record { inputs = i; outputs = o } in
    let same : made ≡ m = cc in
    (subst (λ (q : MadeTree). Fits q.inputs) same (f i refl), subst (λ (q : MadeTree). Fits q.outputs) same (g o refl))
both-good (Ok i) (Err h) f g m e = absurd cc
both-good (Err h) b f g m e = absurd cc

fitting-good : (i o : ValueTree) → IsGoodMade (fitting i o)
fitting-good i o = both-good _ _ (bounded-good i) (bounded-good o)

given-good : {X : Type 0} (r : Result X EvalFault) (next : X → Result MadeTree EvalFault) → ((x : X) → IsGoodMade (next x)) →
    IsGoodMade (given r next)
given-good (Ok x) next all = all x
given-good (Err f) next all = fault-good f

followed-good : {X : Type 0} (o : Result X EvalFault × ℕ) (next : X → Result MadeTree EvalFault) → ((x : X) → IsGoodMade (next x)) →
    IsGoodMade (followed o next).0
followed-good o next all = given-good o.0 next all

goes_on-good : {X : Type 0} (o : Result X EvalFault × ℕ) (next : X → ℕ → Result MadeTree EvalFault × ℕ) →
    ((x : X) (n : ℕ) → IsGoodMade (next x n).0) → IsGoodMade (goes_on o next).0
goes_on-good (Ok x, n) next all = all x n
goes_on-good (Err f, n) next all = fault-good f

if-good : (b : Bool) (r s : Result MadeTree EvalFault) → IsGoodMade r → IsGoodMade s → IsGoodMade (if b then r else s)
if-good true r s f g = f
if-good false r s f g = g

terminated-good : (v : ValueTree) (s : Option RunStatus) → IsGoodMade (terminated v s)
terminated-good v (Some s) = fitting-good v null
terminated-good v None = fault-good (wrong_type Fun.Terminate 0)

joined-good : (v w : ValueTree) → IsGoodMade (joined v w)
joined-good v (text s) =
    given-good (join_of v (text s)) (λ t. fitting (join_inputs v (text s)) (one_member (codes "body") t))
    (λ t. fitting-good (join_inputs v (text s)) (one_member (codes "body") t))
joined-good v w = fault-good (wrong_type Fun.JoinWith 0)

of_list-good : (v : ValueTree) (us : List ValueTree) → IsGoodMade (made_of_list v us)
of_list-good v us = fitting-good (one_member (codes "from") v) (one_member (codes "body") (list (trees us)))

content-good : (v : ValueTree) → IsGoodMade (made_of_content v)
content-good v =
    given-good (parsed v) (λ u. fitting (one_member (codes "content") v) (one_member (codes "body") u))
    (λ u. fitting-good (one_member (codes "content") v) (one_member (codes "body") u))

over_list-good : (l : Told) (from : DataTree) (n : ℕ) (next : ValueTree → List ValueTree → ℕ → Result MadeTree EvalFault × ℕ) →
    ((v : ValueTree) (ts : List ValueTree) (k : ℕ) → IsGoodMade (next v ts k).0) →
    IsGoodMade (goes_on (tree_value l from n) (λ v m. goes_on (items_from v, m) (next v))).0
over_list-good l from n next all =
    goes_on-good (tree_value l from n) (λ v m. goes_on (items_from v, m) (next v)) (λ v m. goes_on-good (items_from v, m) (next v) (all v))

-- ---- variables

abbrev IsGoodChange : Change → Type 0
IsGoodChange change = (k : List ℕ) (u v : ValueTree) → IsGoodMade (change k u v)

written-good : (k : List ℕ) (v new : ValueTree) → IsGoodMade (written k v new)
written-good k v new = fitting-good (given_item k v) (one_member (codes "body") (given_item k new))

abbrev wrong : EvalFault
wrong = wrong_type Fun.Variable 0

set-good : IsGoodChange writing.set_to
set-good k u v = if-good (are_alike u v) (written k v v) (Err wrong) (written-good k v v) (fault-good wrong)

moved-good : (k : List ℕ) (by new : ℤ) → IsGoodMade (moved k by new)
moved-good k by new =
    if-good (fits_i64 new) (written k (number by) (number new)) (Err (EvalFault.Range Fun.Variable))
    (written-good k (number by) (number new)) (fault-good (EvalFault.Range Fun.Variable))

incremented-good : IsGoodChange writing.incremented
incremented-good k (number a) (number b) = moved-good k b (a +ℤ b)
incremented-good k u v = fault-good wrong

decremented-good : IsGoodChange writing.decremented
decremented-good k (number a) (number b) = moved-good k b (a -ℤ b)
decremented-good k u v = fault-good wrong

item-good : IsGoodChange writing.with_item
item-good k (list ts) v = written-good k v (list (trees (items ts ++ v ∷ [])))
item-good k u v = fault-good wrong

text-good : IsGoodChange writing.with_text
text-good k (text s) v = written-good k v (text (s ++ json_text.text v))
text-good k u v = fault-good wrong

changed-good : (l : Told) (change : Change) (k : List ℕ) (o : Outcome) → IsGoodChange change → IsGoodMade (changed l change k o).0
changed-good l change k o good =
    followed-good o (λ v. given (or_no_value k (l.variable k)) (λ u. change k u v))
    (λ v. given-good (or_no_value k (l.variable k)) (λ u. change k u v) (λ u. good k u v))

items-good : (i : ItemsTree) → IsGoodMade (made_of_items i)
items-good i = fitting-good (one_member (codes "variables") (list (trees i.kept))) (one_member (codes "body") (body_of i.given))

-- ---- all kinds

made-good : (l : Told) (kind : KindTree) (n : ℕ) → IsGoodMade (made_by l kind n).0
made-good l (compose t) n = followed-good (tree_value l t n) (λ v. fitting v v) (λ v. fitting-good v v)
made-good l (response t) n = followed-good (tree_value l t n) (λ v. fitting v v) (λ v. fitting-good v v)
made-good l (wait t) n = followed-good (tree_value l t n) (λ v. fitting v null) (λ v. fitting-good v null)
made-good l (terminate t) n =
    followed-good (tree_value l t n) (λ v. terminated v (run_status_of v)) (λ v. terminated-good v (run_status_of v))
made-good l (select from item) n =
    over_list-good l from n (λ v ts k. selected (over_each l item) v ts k)
    (λ v ts k. followed-good (all_after (over_each l item ts) [] k) (made_of_list v) (of_list-good v))
made-good l (query from filter) n =
    over_list-good l from n (λ v ts k. queried (keeps l filter) v ts k)
    (λ v ts k. followed-good (kept_after (keeps l filter) ts [] k) (made_of_list v) (of_list-good v))
made-good l (join from with') n =
    over_list-good l from n (λ v ts k. followed (tree_value l with' k) (joined v))
    (λ v ts k. followed-good (tree_value l with' k) (joined v) (joined-good v))
made-good l (parse_json t schema) n =
    followed-good (tree_value l t n) made_of_content content-good
made-good l (initialize is) n =
    followed-good (initials_after l is (record { kept = []; given = [] }) n) made_of_items items-good
made-good l (set_to k t) n = changed-good l writing.set_to k (tree_value l t n) set-good
made-good l (increment k t) n = changed-good l writing.incremented k (amount l t n) incremented-good
made-good l (decrement k t) n = changed-good l writing.decremented k (amount l t n) decremented-good
made-good l (append_array k t) n = changed-good l writing.with_item k (tree_value l t n) item-good
made-good l (append_string k t) n = changed-good l writing.with_text k (tree_value l t n) text-good
made-good l kind n = fault-good (EvalFault.NoValue [])

-- ---- what an action has from its start on

null-fits : Fits null
null-fits = (omega arith, omega arith)

nothing-fits : (f : EvalFault) → AreFitting (faulted f)
nothing-fits f = record { inputs = null-fits; outputs = null-fits }

made-fits : (m : MadeTree) → Fits m.inputs × Fits m.outputs → AreFitting (succeeded m)
made-fits m good = record { inputs = good.0; outputs = good.1 }

-- what is refused at a place keeps its inputs alone
unless-fits : (m : MadeTree) (p : Option (List ℕ)) → Fits m.inputs × Fits m.outputs → AreFitting (unless_at m p)
unless-fits m None good = made-fits m good
unless-fits m (Some pointer) good = record { inputs = good.0; outputs = null-fits }

judged-fits : (schema : Option SchemaTree) (m : MadeTree) → Fits m.inputs × Fits m.outputs → AreFitting (judged schema m)
judged-fits None m good = made-fits m good
judged-fits (Some schema) m good = unless-fits m _ good

done-fits : (kind : KindTree) (r : Result MadeTree EvalFault) → IsGoodMade r → AreFitting (done_of kind r)
done-fits kind (Err f) good = nothing-fits f
done-fits (parse_json content schema) (Ok m) good = judged-fits schema m (good m refl)
done-fits kind (Ok m) good = made-fits m (good m refl)

called-fits : (policy : Policy) (a : Answer) → IsGood a → KeepsFitting (called_with policy a)
called-fits policy (Ok v) good = good v refl
called-fits policy (Err f) good = nothing-fits f

pub begun-fits : ((l : Told) (t : DataTree) (n : ℕ) (v : ValueTree) → (tree_value l t n).0 ≡ Ok v → Fits v) →
    (l : Told) (kind : KindTree) (n : ℕ) → KeepsFitting (begun_from l kind n)
begun-fits fits l (connector t policy) n = called-fits policy (tree_value l t n).0 (fits l t n)
begun-fits fits l kind n = done-fits kind (made_by l kind n).0 (made-good l kind n)
