-- The kind of an action by its number is that of the action that the number finds.
use Rattle.std.proofs.Common.{◌≡◌, ℕ, Bool, true, false, ◌||◌, cond, List, [], ◌∷◌, Option, Some, inl, inr, refl, sym, ◌∙◌, subst, nat_eq}
use Rattle.std.proofs.Common.{eqb-true}
use Rattle.std.specs.List.{AllByRecursion, find}
use Rattle.wf_layers.specs.Definition.{Kind, Graph, Branches, holds, has, has_any, kind_any, kind_in, kind_of}
use Rattle.wf_layers.specs.Definition as layers
use Rattle.wf_layers.specs.Seen.{Once, OnceAny, OnceIn}
use Rattle.wf_layers.proofs.Basics.{two, or_first, or_second, same_self, when, unless}
use Rattle.wf_meant.specs.ActionTree.{ActionTree, action, action_kind, action_number, KindTree, compose}
use Rattle.wf_meant.specs.ActionTree.{connector, wait, response, terminate}
use Rattle.wf_meant.specs.ActionTree.{select, query, join, parse_json, initialize, set_to}
use Rattle.wf_meant.specs.ActionTree.{increment, decrement, append_array, append_string}
use Rattle.wf_meant.specs.ActionTree.{scope, branch, switch, switch_else, foreach, until, ActionTrees, no_actions, action_then, CaseTrees}
use Rattle.wf_meant.specs.ActionTree.{no_cases, case_then}
use Rattle.wf_meant.specs.AllActions.{all_actions, cases_actions, has_number, kind_actions, numbered}
use Rattle.wf_meant.specs.DefTree.{DefTree}
use Rattle.wf_meant.specs.Layered.{layered, layered_cases, layered_kind}
use Rattle.wf_meant.specs.Points.{graph_of}
use Rattle.wf_meant.proofs.HeldLemmas.{not_first, not_own, passed}
use Rattle.wf_instance.proofs.PlacedLemmas.{once_last}
use Rattle.wf_instance.proofs.LookLemmas.{all_joined}

module _ (d : DefTree) where
  abbrev pub HasKind : ActionTree → Type 0
  HasKind a = kind_of (graph_of d) (action_number a) ≡ Some (layered_kind (action_kind a))

  -- what is asked by number in the definition is asked in a part of it
  abbrev Same : (ℕ → Bool) → (ℕ → Option Kind) → Type 0
  Same held kinds = (n : ℕ) → held n ≡ true → kind_of (graph_of d) n ≡ kinds n

  same_first : (b : Graph) (rest : Branches) → Same (has_any (layers.branch b rest)) (kind_any (layers.branch b rest)) → Same (has b)
      (kind_of b)
  same_first b rest same n here = same n (or_first (has b n) (has_any rest n) here) ∙ when (has b n) (kind_of b n) (kind_any rest n) here

  same_rest : (b : Graph) (rest : Branches) → ((m : ℕ) → has b m ≡ true → has_any rest m ≡ false)
      → Same (has_any (layers.branch b rest)) (kind_any (layers.branch b rest)) → Same (has_any rest) (kind_any rest)
  same_rest b rest apart same n there =
      same n (or_second (has b n) (has_any rest n) there) ∙ unless (has b n) (kind_of b n) (kind_any rest n)
      (not_first rest n b there apart)

  same_last : (cases : CaseTrees) (b : Graph) → OnceAny (layered_cases cases (layers.branch b layers.no_branch))
      → Same (has_any (layered_cases cases (layers.branch b layers.no_branch)))
      (kind_any (layered_cases cases (layers.branch b layers.no_branch)))
      → Same (has b) (kind_of b)
  same_last no_cases b once same = same_first b layers.no_branch same
  same_last (case_then name value graph rest) b once same =
      same_last rest b once.2 (same_rest (layered graph) (layered_cases rest (layers.branch b layers.no_branch)) once.0 same)

  mutual
    pub kinds_of : (graph : ActionTrees) → Once (layered graph) → Same (has (layered graph)) (kind_of (layered graph))
        → AllByRecursion HasKind (all_actions graph)
    kinds_of no_actions once same = tt
    kinds_of (action_then (action name number pointer after kind tracked) rest) once same = (
      same number (or_first (nat_eq number number || holds (layered_kind kind) number) (has (layered rest) number)
          (or_first (nat_eq number number) (holds (layered_kind kind) number) (same_self number)))
          ∙ when (nat_eq number number) (Some (layered_kind kind))
          (cond (holds (layered_kind kind) number) (kind_in (layered_kind kind) number) (kind_of (layered rest) number)) (same_self number),
      all_joined HasKind (kind_actions kind) (all_actions rest)
          (kinds_in kind once.2 (λ n held.
          same n (or_first (nat_eq number n || holds (layered_kind kind) n) (has (layered rest) n)
          (or_second (nat_eq number n) (holds (layered_kind kind) n) held))
          ∙ (unless (nat_eq number n) (Some (layered_kind kind))
          (cond (holds (layered_kind kind) n) (kind_in (layered_kind kind) n) (kind_of (layered rest) n))
          (not_own n number (layered_kind kind) once.0 held)
          ∙ when (holds (layered_kind kind) n) (kind_in (layered_kind kind) n) (kind_of (layered rest) n) held)))
          (kinds_of rest once.3 (λ n there.
          let away = passed number (layered_kind kind) (layered rest) once.1 n there in
          same n (or_second (nat_eq number n || holds (layered_kind kind) n) (has (layered rest) n) there)
          ∙ (unless (nat_eq number n) (Some (layered_kind kind))
          (cond (holds (layered_kind kind) n) (kind_in (layered_kind kind) n) (kind_of (layered rest) n)) away.0
          ∙ unless (holds (layered_kind kind) n) (kind_in (layered_kind kind) n) (kind_of (layered rest) n) away.1))),
    )

    kinds_in : (kind : KindTree) → OnceIn (layered_kind kind) → Same (holds (layered_kind kind)) (kind_in (layered_kind kind))
        → AllByRecursion HasKind (kind_actions kind)
    kinds_in (compose inputs) once same = tt
    kinds_in (connector inputs policy) once same = tt
    kinds_in (wait inputs) once same = tt
    kinds_in (response inputs) once same = tt
    kinds_in (terminate inputs) once same = tt
    kinds_in (select from item) once same = tt
    kinds_in (query from filter) once same = tt
    kinds_in (join from with') once same = tt
    kinds_in (parse_json content schema) once same = tt
    kinds_in (initialize variables) once same = tt
    kinds_in (set_to name value) once same = tt
    kinds_in (increment name value) once same = tt
    kinds_in (decrement name value) once same = tt
    kinds_in (append_array name value) once same = tt
    kinds_in (append_string name value) once same = tt
    kinds_in (scope graph) once same = kinds_of graph once same
    kinds_in (branch test yes' no') once same =
        all_joined HasKind (all_actions yes') (all_actions no')
        (kinds_of yes' once.1 (same_first (layered yes') (layers.branch (layered no') layers.no_branch) same))
        (kinds_of no' once.2.1 (same_first (layered no') layers.no_branch
        (same_rest (layered yes') (layers.branch (layered no') layers.no_branch) once.0 same)))
    kinds_in (switch on cases) once same = kinds_cases cases (layers.branch layers.done layers.no_branch) once same
    kinds_in (switch_else on cases default) once same =
        all_joined HasKind (cases_actions cases) (all_actions default)
        (kinds_cases cases (layers.branch (layered default) layers.no_branch) once same)
        (kinds_of default (once_last d cases (layered default) once) (same_last cases (layered default) once same))
    kinds_in (foreach items repetitions graph) once same = kinds_of graph once same
    kinds_in (until test count fails graph) once same = kinds_of graph once same

    kinds_cases : (cases : CaseTrees) (last : Branches) → OnceAny (layered_cases cases last)
        → Same (has_any (layered_cases cases last)) (kind_any (layered_cases cases last)) → AllByRecursion HasKind (cases_actions cases)
    kinds_cases no_cases last once same = tt
    kinds_cases (case_then name value graph rest) last once same =
        all_joined HasKind (all_actions graph) (cases_actions rest)
        (kinds_of graph once.1 (same_first (layered graph) (layered_cases rest last) same))
        (kinds_cases rest last once.2 (same_rest (layered graph) (layered_cases rest last) once.0 same))

  found_one : (n : ℕ) (as' : List ActionTree) (a : ActionTree) → AllByRecursion HasKind as' → find (has_number n) as' ≡ Some a
      → kind_of (graph_of d) n ≡ Some (layered_kind (action_kind a))
  found_one n [] a all is = absurd (cc)
  found_one n (b ∷ as') a all is = elim (two (has_number n b)) [
    | inl t ↦
        let same : Some b ≡ Some a = sym (when (has_number n b) (Some b) (find (has_number n) as') t) ∙ is in
        let it : b ≡ a = cc in
        subst (λ (q : ActionTree). kind_of (graph_of d) n ≡ Some (layered_kind (action_kind q))) it
        (subst (λ (m : ℕ). kind_of (graph_of d) m ≡ Some (layered_kind (action_kind b))) (sym (eqb-true n (action_number b) t)) all.0)
    | inr f ↦ found_one n as' a all.1 (sym (unless (has_number n b) (Some b) (find (has_number n) as') f) ∙ is)
  ]

  -- THE LAW
  pub kinds : Once (graph_of d) → (n : ℕ) (a : ActionTree) → numbered n d.top ≡ Some a
      → kind_of (graph_of d) n ≡ Some (layered_kind (action_kind a))
  kinds once n a is = found_one n (all_actions d.top) a (kinds_of d.top once (λ m own. refl)) is
