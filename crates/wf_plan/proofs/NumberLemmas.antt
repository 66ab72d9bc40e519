-- What an action is by its number in the graph of the laws of order is what the list of all actions says.
use Rattle.std.proofs.Common.{◌≡◌, ℕ, Bool, true, false, ◌||◌, cond, List, [], ◌∷◌, ◌++◌, Option, Some, refl, sym, ◌∙◌, subst, nat_eq, eqb-true, true≢false}
use Rattle.std.specs.List.{AllByRecursion}
use Rattle.wf_def.specs.Definition.{Need, Kind, Graph, Branches, holds, has, has_any, kind_any, kind_in, kind_of, needs_any, needs_in, needs_of}
use Rattle.wf_def.specs.Definition as layers
use Rattle.wf_def.specs.Seen.{Once, OnceAny, OnceIn}
use Rattle.wf_def.proofs.Basics.{not_true, or_first, or_second, same_self, when, unless}
use Rattle.wf_def.specs.ActionTree.{ActionTree, action, action_kind, action_number, KindTree, compose, connector, wait, response, terminate, select, query, join, parse_json, initialize, set_to, increment, decrement, append_array, append_string, scope, branch, switch, switch_else, foreach, until, ActionTrees, no_actions, action_then, CaseTrees, no_cases, case_then}
use Rattle.wf_def.specs.AllActions.{all_actions, cases_actions, kind_actions}
use Rattle.wf_def.specs.Layered.{layered, layered_cases, layered_kind}
use Rattle.wf_plan.specs.Plan.{needs}

all_joined : {X : Type 0} (P : X → Type 0) (xs ys : List X) → AllByRecursion P xs → AllByRecursion P ys → AllByRecursion P (xs ++ ys)
all_joined P [] ys one other = other
all_joined P (x ∷ xs) ys one other = (one.0, all_joined P xs ys one.1 other)

-- a branch that isn't the first is apart from it; what is inside an action isn't the action; what stands behind it isn't it, nor inside it
not_first : (rest : Branches) (x : ℕ) (b : Graph) → has_any rest x ≡ true → ((m : ℕ) → has b m ≡ true → has_any rest m ≡ false)
    → has b x ≡ false
not_first rest x b there apart = not_true (has b x) (λ t. true≢false (sym there ∙ apart x t))

pub neither : (a b : Bool) → (a || b) ≡ false → (a ≡ false) × (b ≡ false)
neither true b e = absurd (true≢false e)
neither false b e = (refl, e)

not_own : (x m : ℕ) (kind : Kind) → holds kind m ≡ false → holds kind x ≡ true → nat_eq m x ≡ false
not_own x m kind off hx = not_true (nat_eq m x) (λ t. true≢false (sym hx ∙ subst (λ q. holds kind q ≡ false) (eqb-true m x t) off))

passed : (m : ℕ) (kind : Kind) (rest : Graph) → ((q : ℕ) → (nat_eq m q || holds kind q) ≡ true → has rest q ≡ false) → (x : ℕ)
    → has rest x ≡ true → (nat_eq m x ≡ false) × (holds kind x ≡ false)
passed m kind rest apart x there =
    neither (nat_eq m x) (holds kind x) (not_true (nat_eq m x || holds kind x) (λ t. true≢false (sym there ∙ apart x t)))

pub once_last : (cases : CaseTrees) (b : Graph) → OnceAny (layered_cases cases (layers.branch b layers.no_branch)) → Once b
once_last no_cases b once = once.1
once_last (case_then name value graph rest) b once = once_last rest b once.2

module _ (d : Graph) where
  -- what is known of an action of the list
  abbrev pub IsHad : ActionTree → Type 0
  IsHad a =
      (kind_of d (action_number a) ≡ Some (layered_kind (action_kind a))) × (needs_of d (action_number a) ≡ needs a)

  -- what is asked by number in the definition is asked in a part of it
  abbrev Same : (ℕ → Bool) → (ℕ → Option Kind) → (ℕ → List Need) → Type 0
  Same held kinds needed = (n : ℕ) → held n ≡ true → (kind_of d n ≡ kinds n) × (needs_of d n ≡ needed n)

  same_first : (b : Graph) (rest : Branches)
      → Same (has_any (layers.branch b rest)) (kind_any (layers.branch b rest)) (needs_any (layers.branch b rest))
      → Same (has b) (kind_of b) (needs_of b)
  same_first b rest same n here =
      let h = same n (or_first (has b n) (has_any rest n) here) in (
        h.0 ∙ when (has b n) (kind_of b n) (kind_any rest n) here,
        h.1 ∙ when (has b n) (needs_of b n) (needs_any rest n) here,
      )

  same_rest : (b : Graph) (rest : Branches) → ((m : ℕ) → has b m ≡ true → has_any rest m ≡ false)
      → Same (has_any (layers.branch b rest)) (kind_any (layers.branch b rest)) (needs_any (layers.branch b rest))
      → Same (has_any rest) (kind_any rest) (needs_any rest)
  same_rest b rest apart same n there =
      let h = same n (or_second (has b n) (has_any rest n) there) in let off = not_first rest n b there apart in (
        h.0 ∙ unless (has b n) (kind_of b n) (kind_any rest n) off,
        h.1 ∙ unless (has b n) (needs_of b n) (needs_any rest n) off,
      )

  same_last : (cases : CaseTrees) (b : Graph) → OnceAny (layered_cases cases (layers.branch b layers.no_branch))
      → Same (has_any (layered_cases cases (layers.branch b layers.no_branch)))
      (kind_any (layered_cases cases (layers.branch b layers.no_branch)))
      (needs_any (layered_cases cases (layers.branch b layers.no_branch)))
      → Same (has b) (kind_of b) (needs_of b)
  same_last no_cases b once same = same_first b layers.no_branch same
  same_last (case_then name value graph rest) b once same =
      same_last rest b once.2 (same_rest (layered graph) (layered_cases rest (layers.branch b layers.no_branch)) once.0 same)

  -- inside the first action of a graph, and behind it
  same_inside : (number : ℕ) (after : List Need) (kind : Kind) (rest : Graph) → holds kind number ≡ false
      → Same (has (layers.add number after kind rest)) (kind_of (layers.add number after kind rest))
      (needs_of (layers.add number after kind rest)) → Same (holds kind) (kind_in kind) (needs_in kind)
  same_inside number after kind rest off same n held =
      let h = same n (or_first (nat_eq number n || holds kind n) (has rest n) (or_second (nat_eq number n) (holds kind n) held)) in
      let other = not_own n number kind off held in (
        h.0 ∙ unless (nat_eq number n) (Some kind) (cond (holds kind n) (kind_in kind n) (kind_of rest n)) other
            ∙ when (holds kind n) (kind_in kind n) (kind_of rest n) held,
        h.1 ∙ unless (nat_eq number n) after (cond (holds kind n) (needs_in kind n) (needs_of rest n)) other
            ∙ when (holds kind n) (needs_in kind n) (needs_of rest n) held,
      )

  same_behind : (number : ℕ) (after : List Need) (kind : Kind) (rest : Graph)
      → ((q : ℕ) → (nat_eq number q || holds kind q) ≡ true → has rest q ≡ false)
      → Same (has (layers.add number after kind rest)) (kind_of (layers.add number after kind rest))
      (needs_of (layers.add number after kind rest)) → Same (has rest) (kind_of rest) (needs_of rest)
  same_behind number after kind rest apart same n there =
      let h = same n (or_second (nat_eq number n || holds kind n) (has rest n) there) in
      let away = passed number kind rest apart n there in (
        h.0 ∙ unless (nat_eq number n) (Some kind) (cond (holds kind n) (kind_in kind n) (kind_of rest n)) away.0
            ∙ unless (holds kind n) (kind_in kind n) (kind_of rest n) away.1,
        h.1 ∙ unless (nat_eq number n) after (cond (holds kind n) (needs_in kind n) (needs_of rest n)) away.0
            ∙ unless (holds kind n) (needs_in kind n) (needs_of rest n) away.1,
      )

  mutual
    pub had_in : (graph : ActionTrees) → Once (layered graph)
        → Same (has (layered graph)) (kind_of (layered graph)) (needs_of (layered graph))
        → AllByRecursion IsHad (all_actions graph)
    had_in no_actions once same = tt
    had_in (action_then (action name number pointer after kind tracked) rest) once same =
        let own = same number (or_first (nat_eq number number || holds (layered_kind kind) number) (has (layered rest) number)
        (or_first (nat_eq number number) (holds (layered_kind kind) number) (same_self number))) in (
          (
            own.0 ∙ when (nat_eq number number) (Some (layered_kind kind))
                (cond (holds (layered_kind kind) number) (kind_in (layered_kind kind) number) (kind_of (layered rest) number))
                (same_self number),
            own.1 ∙ when (nat_eq number number) (needs (action name number pointer after kind tracked))
                (cond (holds (layered_kind kind) number) (needs_in (layered_kind kind) number) (needs_of (layered rest) number))
                (same_self number),
          ),
          all_joined IsHad (kind_actions kind) (all_actions rest)
              (had_kind kind once.2
              (same_inside number (needs (action name number pointer after kind tracked)) (layered_kind kind) (layered rest) once.0 same))
              (had_in rest once.3
              (same_behind number (needs (action name number pointer after kind tracked)) (layered_kind kind) (layered rest) once.1 same)),
        )

    had_kind : (kind : KindTree) → OnceIn (layered_kind kind)
        → Same (holds (layered_kind kind)) (kind_in (layered_kind kind)) (needs_in (layered_kind kind))
        → AllByRecursion IsHad (kind_actions kind)
    had_kind (compose inputs) once same = tt
    had_kind (connector inputs policy) once same = tt
    had_kind (wait inputs) once same = tt
    had_kind (response inputs) once same = tt
    had_kind (terminate inputs) once same = tt
    had_kind (select from item) once same = tt
    had_kind (query from filter) once same = tt
    had_kind (join from with') once same = tt
    had_kind (parse_json content schema) once same = tt
    had_kind (initialize variables) once same = tt
    had_kind (set_to name value) once same = tt
    had_kind (increment name value) once same = tt
    had_kind (decrement name value) once same = tt
    had_kind (append_array name value) once same = tt
    had_kind (append_string name value) once same = tt
    had_kind (scope graph) once same = had_in graph once same
    had_kind (branch test yes' no') once same =
        all_joined IsHad (all_actions yes') (all_actions no')
        (had_in yes' once.1 (same_first (layered yes') (layers.branch (layered no') layers.no_branch) same))
        (had_in no' once.2.1 (same_first (layered no') layers.no_branch
        (same_rest (layered yes') (layers.branch (layered no') layers.no_branch) once.0 same)))
    had_kind (switch on cases) once same = had_cases cases (layers.branch layers.done layers.no_branch) once same
    had_kind (switch_else on cases default) once same =
        all_joined IsHad (cases_actions cases) (all_actions default)
        (had_cases cases (layers.branch (layered default) layers.no_branch) once same)
        (had_in default (once_last cases (layered default) once) (same_last cases (layered default) once same))
    had_kind (foreach items repetitions graph) once same = had_in graph once same
    had_kind (until test count fails graph) once same = had_in graph once same

    had_cases : (cases : CaseTrees) (last : Branches) → OnceAny (layered_cases cases last)
        → Same (has_any (layered_cases cases last)) (kind_any (layered_cases cases last)) (needs_any (layered_cases cases last))
        → AllByRecursion IsHad (cases_actions cases)
    had_cases no_cases last once same = tt
    had_cases (case_then name value graph rest) last once same =
        all_joined IsHad (all_actions graph) (cases_actions rest)
        (had_in graph once.1 (same_first (layered graph) (layered_cases rest last) same))
        (had_cases rest last once.2 (same_rest (layered graph) (layered_cases rest last) once.0 same))

-- each action of the list is the one of its number
pub all_had : (graph : ActionTrees) → Once (layered graph) → AllByRecursion (IsHad (layered graph)) (all_actions graph)
all_had graph once = had_in (layered graph) graph once (λ n held. (refl, refl))
