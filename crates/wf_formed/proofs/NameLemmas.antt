-- Each action of a definition that was read has a name of 1 to 80 characters, none of them a control character.
use Rattle.std.proofs.Common.{◌≡◌, ℕ, Bool, true, false, ◌||◌, List, [], ◌∷◌, ◌++◌, Option, Some, None, map, inl, inr, refl, sym, ◌∙◌}
use Rattle.std.proofs.Common.{subst, true≢false}
use Rattle.std.specs.Prelude.{not}
use Rattle.std.specs.List.{AllByRecursion, find}
use Rattle.wf_layers.proofs.Basics.{two, unless, when}
use Rattle.wf_asked.specs.Asked as asked
use Rattle.wf_val.specs.Get.{name_of}
use Rattle.wf_val.specs.ValueTree.{ValueTree, null, boolean, number, text, list, object, MemberTrees, no_members, member_then, Member}
use Rattle.wf_json.specs.Pointer.{here, member_step}
use Rattle.wf_form.specs.Actions.{actions_among, actions_in, actions_of, in_part, own_action}
use Rattle.wf_form.specs.Fault.{inner_of, offences}
use Rattle.wf_form.specs.Naming.{is_name, naming}
use Rattle.wf_form.specs.Places.{in_members, places}
use Rattle.wf_form.specs.Role.{child, holder_of}
use Rattle.wf_form.specs.Whole.{Whole, whole_of}
use Rattle.wf_form.specs.declared.role.Role.{Role}
use Rattle.wf_form.specs.declared.role.Holder.{Holder}
use Rattle.wf_form.specs.declared.rule.Rule.{Rule}
use Rattle.wf_def.specs.ActionTree.{ActionTree, action_name}
use Rattle.wf_def.specs.AllActions.{all_actions, has_number, numbered}
use Rattle.wf_def.specs.DefTree.{DefTree}
use Rattle.wf_def.specs.Names.{graph_names}
use Rattle.wf_reading.specs.Meant.{names_of}
use Rattle.wf_reading.specs.Numbers.{number_among}
use Rattle.wf_reading.specs.Read.{IsRead}
use Rattle.wf_reading.proofs.NameLemmas.{names_agree}
use Rattle.wf_reading.proofs.ReadLemmas.{inner-well_formed}
use Rattle.wf_reading.proofs.RunAfterLemmas.{append-first, append-second, map-none}
use Rattle.wf_refs.proofs.NumberLemmas.{names_are}

none_here : (b : Bool) → here b ≡ [] → b ≡ false
none_here true is = absurd (cc)
none_here false is = refl

named_where : (b c : Bool) → (not b || c) ≡ false → b ≡ true
named_where true c is = refl
named_where false c is = absurd (true≢false is)

all_append : {X : Type 0} (P : X → Type 0) (xs ys : List X) → AllByRecursion P xs → AllByRecursion P ys → AllByRecursion P (xs ++ ys)
all_append P [] ys all more = more
all_append P (x ∷ xs) ys all more = (all.0, all_append P xs ys all.1 more)

-- ---- where no name breaks the rule, each action's has its form

abbrev HasName : List ℕ → Type 0
HasName s = asked.is_name 80 (text s) ≡ true

abbrev IsNamed : Member → Type 0
IsNamed m = HasName m.0

module _ (whole : Whole) where
  own_named : (role : Role) (key : List ℕ) (t : ValueTree) → naming whole role key ≡ [] → AllByRecursion IsNamed (own_action role key t)
  unfolding naming
  own_named (Role.Action l) key t is =
      (named_where (is_name key) (whole.repeats key) (none_here (not (is_name key) || whole.repeats key) is), tt)
  own_named Role.Definition key t is = tt
  own_named Role.Parameters key t is = tt
  own_named Role.Triggers key t is = tt
  own_named Role.Outputs key t is = tt
  own_named Role.Parameter key t is = tt
  own_named Role.Trigger key t is = tt
  own_named Role.Output key t is = tt
  own_named (Role.Graph l) key t is = tt
  own_named (Role.Branch l) key t is = tt
  own_named (Role.Cases l) key t is = tt
  own_named (Role.Case l) key t is = tt

  mutual
    each_named : (role : Role) (key : List ℕ) (t : ValueTree) → places Rule.Names whole role key t ≡ []
        → AllByRecursion IsNamed (actions_in role key t)
    each_named role key null is = own_named role key null is
    each_named role key (boolean b) is = own_named role key (boolean b) is
    each_named role key (number n) is = own_named role key (number n) is
    each_named role key (text s) is = own_named role key (text s) is
    each_named role key (list ts) is = own_named role key (list ts) is
    each_named role key (object ms) is =
        let inner = in_members Rule.Names whole role (holder_of (object ms)) ms in
        all_append IsNamed (own_action role key (object ms)) (actions_among role (holder_of (object ms)) ms)
        (own_named role key (object ms) (append-first (naming whole role key) inner is))
        (members_named role (holder_of (object ms)) ms (append-second (naming whole role key) inner is))

    members_named : (role : Role) (h : Holder) (ms : MemberTrees) → in_members Rule.Names whole role h ms ≡ []
        → AllByRecursion IsNamed (actions_among role h ms)
    members_named role h no_members is = tt
    members_named role h (member_then k t ms) is =
        let own : List (List ℕ) = in_part (child role h k) (λ r. places Rule.Names whole r k t) in
        let none : own ≡ [] = map-none (λ (p : List ℕ). member_step k ++ p) own
        (append-first (map (λ (p : List ℕ). member_step k ++ p) own) (in_members Rule.Names whole role h ms) is) in
        all_append IsNamed (in_part (child role h k) (λ r. actions_in r k t)) (actions_among role h ms)
        ((elim (child role h k) as (λ (o : Option Role). in_part o (λ r. places Rule.Names whole r k t) ≡ []
        → AllByRecursion IsNamed (in_part o (λ r. actions_in r k t))) [
          | None ↦ λ e. tt
          | Some part ↦ λ e. each_named part k t e
        ]) none)
        (members_named role h ms
        (append-second (map (λ (p : List ℕ). member_step k ++ p) own) (in_members Rule.Names whole role h ms) is))

names_in : (ms : List Member) → AllByRecursion IsNamed ms → AllByRecursion HasName (map name_of ms)
names_in [] all = tt
names_in (m ∷ ms) all = (all.0, names_in ms all.1)

-- ---- the name of the action of a number

by_names : (as' : List ActionTree) → AllByRecursion HasName (map action_name as') → (n : ℕ) (a : ActionTree)
    → find (has_number n) as' ≡ Some a → HasName (action_name a)
by_names [] all n a is = absurd (cc)
by_names (b ∷ rest) all n a is = elim (two (has_number n b)) [
  | inl t ↦
      let it : Some b ≡ Some a = sym (when (has_number n b) (Some b) (find (has_number n) rest) t) ∙ is in
      let same : b ≡ a = cc (it) in subst (λ (c : ActionTree). HasName (action_name c)) same all.0
  | inr f ↦ by_names rest all.1 n a (sym (unless (has_number n b) (Some b) (find (has_number n) rest) f) ∙ is)
]

-- THE LAW
pub names_formed : (d : DefTree) (r : IsRead d) → offences (inner_of r.value) Rule.Names ≡ [] → (n : ℕ) (a : ActionTree)
    → numbered n d.top ≡ Some a → asked.is_name 80 (text (action_name a)) ≡ true
names_formed d r fine n a is =
    let t = inner_of r.value in
    let named : AllByRecursion HasName (names_of t) =
    names_in (actions_of t) (each_named (whole_of t) Role.Definition [] t fine) in
    let of_graph : AllByRecursion HasName (graph_names d.top) =
    subst (λ (e : DefTree). AllByRecursion HasName (graph_names e.top)) r.means
    (rw (names_agree (number_among (names_of t)) t (inner-well_formed r.value r.well_formed)) named) in
    by_names (all_actions d.top) (subst (AllByRecursion HasName) (sym (names_are d.top)) of_graph) n a is
