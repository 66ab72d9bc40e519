-- No action of a definition has the empty name.
use Rattle.std.proofs.Common.{◌≡◌, ℕ, Bool, true, false, ◌||◌, List, [], ◌∷◌, ◌++◌, Option, Some, None, map, bytes_eq, inl, inr, refl}
use Rattle.std.proofs.Common.{sym, ap, ◌∙◌, subst, true≢false}
use Rattle.std.specs.Prelude.{not}
use Rattle.std.specs.List.{AllByRecursion, find, list_any}
use Rattle.std.specs.Str.{chars}
use Rattle.wf_layers.proofs.Basics.{two, unless}
use Rattle.wf_val.specs.Get.{name_of}
use Rattle.wf_val.specs.ValueTree.{ValueTree, null, boolean, number, text, list, object, MemberTrees, no_members, member_then, Member}
use Rattle.wf_json.specs.Pointer.{here, member_step}
use Rattle.wf_form.specs.Actions.{actions_among, actions_in, actions_of, in_part, own_action}
use Rattle.wf_form.specs.Fault.{inner_of, offences}
use Rattle.wf_form.specs.Naming.{is_name, naming}
use Rattle.wf_form.specs.Places.{in_members, places}
use Rattle.wf_form.specs.Role.{child, holder_of}
use Rattle.wf_form.specs.Whole.{Whole, whole_of}
use Rattle.wf_form.specs.declared.role.Role.{Role}
use Rattle.wf_form.specs.declared.role.Holder.{Holder}
use Rattle.wf_form.specs.declared.rule.Rule.{Rule}
use Rattle.wf_def.specs.ActionTree.{ActionTree, action_name}
use Rattle.wf_def.specs.AllActions.{all_actions}
use Rattle.wf_def.specs.DefTree.{DefTree}
use Rattle.wf_def.specs.Names.{graph_names}
use Rattle.wf_shaped.specs.Meant.{names_of}
use Rattle.wf_shaped.specs.Numbers.{number_among}
use Rattle.wf_shaped.specs.Read.{IsRead}
use Rattle.wf_shaped.proofs.NameLemmas.{names_agree}
use Rattle.wf_shaped.proofs.ReadLemmas.{inner-well_formed}
use Rattle.wf_shaped.proofs.RunAfterLemmas.{append-first, append-second, map-none}
use Rattle.wf_shaped.proofs.NumberLemmas.{names_are}
use Rattle.wf_shaped.specs.Points.{action_named, has_action_name}

here-none : (b : Bool) → here b ≡ [] → b ≡ false
here-none true is = absurd (cc)
here-none false is = refl

named-where : (b c : Bool) → (not b || c) ≡ false → b ≡ true
named-where true c is = refl
named-where false c is = absurd (true≢false is)

all-append : {X : Type 0} (P : X → Type 0) (xs ys : List X) → AllByRecursion P xs → AllByRecursion P ys → AllByRecursion P (xs ++ ys)
all-append P [] ys all more = more
all-append P (x ∷ xs) ys all more = (all.0, all-append P xs ys all.1 more)

-- ---- where no name breaks the rule, each action's has its form

module _ (whole : Whole) where
  abbrev HasName : Member → Type 0
  HasName m = is_name m.0 ≡ true

  own-named : (role : Role) (key : List ℕ) (t : ValueTree) → naming whole role key ≡ [] → AllByRecursion HasName (own_action role key t)
  unfolding naming
  own-named (Role.Action l) key t is =
      (named-where (is_name key) (whole.repeats key) (here-none (not (is_name key) || whole.repeats key) is), tt)
  own-named Role.Definition key t is = tt
  own-named Role.Parameters key t is = tt
  own-named Role.Triggers key t is = tt
  own-named Role.Outputs key t is = tt
  own-named Role.Parameter key t is = tt
  own-named Role.Trigger key t is = tt
  own-named Role.Output key t is = tt
  own-named (Role.Graph l) key t is = tt
  own-named (Role.Branch l) key t is = tt
  own-named (Role.Cases l) key t is = tt
  own-named (Role.Case l) key t is = tt

  mutual
    each-named : (role : Role) (key : List ℕ) (t : ValueTree) → places Rule.Names whole role key t ≡ []
        → AllByRecursion HasName (actions_in role key t)
    each-named role key null is = own-named role key null is
    each-named role key (boolean b) is = own-named role key (boolean b) is
    each-named role key (number n) is = own-named role key (number n) is
    each-named role key (text s) is = own-named role key (text s) is
    each-named role key (list ts) is = own-named role key (list ts) is
    each-named role key (object ms) is =
        let inner = in_members Rule.Names whole role (holder_of (object ms)) ms in
        all-append HasName (own_action role key (object ms)) (actions_among role (holder_of (object ms)) ms)
        (own-named role key (object ms) (append-first (naming whole role key) inner is))
        (members-named role (holder_of (object ms)) ms (append-second (naming whole role key) inner is))

    members-named : (role : Role) (h : Holder) (ms : MemberTrees) → in_members Rule.Names whole role h ms ≡ []
        → AllByRecursion HasName (actions_among role h ms)
    members-named role h no_members is = tt
    members-named role h (member_then k t ms) is =
        let own : List (List ℕ) = in_part (child role h k) (λ r. places Rule.Names whole r k t) in
        let none : own ≡ [] = map-none (λ (p : List ℕ). member_step k ++ p) own
        (append-first (map (λ (p : List ℕ). member_step k ++ p) own) (in_members Rule.Names whole role h ms) is) in
        all-append HasName (in_part (child role h k) (λ r. actions_in r k t)) (actions_among role h ms)
        ((elim (child role h k) as (λ (o : Option Role). in_part o (λ r. places Rule.Names whole r k t) ≡ []
        → AllByRecursion HasName (in_part o (λ r. actions_in r k t))) [
          | None ↦ λ e. tt
          | Some part ↦ λ e. each-named part k t e
        ]) none)
        (members-named role h ms
        (append-second (map (λ (p : List ℕ). member_step k ++ p) own) (in_members Rule.Names whole role h ms) is))

-- ---- so none is empty

empty-unnamed : is_name [] ≡ false
unfolding chars
empty-unnamed = refl

none-empty : (ms : List Member) → AllByRecursion (λ (m : Member). is_name m.0 ≡ true) ms → list_any (bytes_eq []) (map name_of ms) ≡ false
none-empty [] all = refl
none-empty (([], t) ∷ ms) all = absurd (true≢false (sym all.0 ∙ empty-unnamed))
none-empty ((b ∷ name, t) ∷ ms) all = none-empty ms all.1

not-found : (as' : List ActionTree) → list_any (bytes_eq []) (map action_name as') ≡ false → find (has_action_name []) as' ≡ None
not-found [] none = refl
not-found (a ∷ as') none = elim (two (bytes_eq [] (action_name a))) [
  | inl is ↦ absurd (true≢false (ap (λ (c : Bool). c || list_any (bytes_eq []) (map action_name as')) (sym is) ∙ none))
  | inr is ↦
      unless (bytes_eq [] (action_name a)) (Some a) (find (has_action_name []) as') is
      ∙ not-found as' (ap (λ (c : Bool). c || list_any (bytes_eq []) (map action_name as')) (sym is) ∙ none)
]

pub none-unnamed : (d : DefTree) (r : IsRead d) → offences (inner_of r.value) Rule.Names ≡ [] → action_named d [] ≡ None
none-unnamed d r fine =
    let t = inner_of r.value in
    not-found (all_actions d.top)
    (ap (list_any (bytes_eq [])) (names_are d.top)
    ∙ subst (λ (e : DefTree). list_any (bytes_eq []) (graph_names e.top) ≡ false) r.means
    (rw (names_agree (number_among (names_of t)) t (inner-well_formed r.value r.well_formed))
    (none-empty (actions_of t) (each-named (whole_of t) Role.Definition [] t fine))))
