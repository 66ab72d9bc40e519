-- Each graph of a definition is one whose status is told by steps.
use Rattle.std.proofs.Common.{◌≡◌, ℕ, ◌<◌, Bool, true, false, ◌||◌, cond, List, [], ◌∷◌}
use Rattle.std.proofs.Common.{◌++◌, map, Option, Some, inl, inr, refl, sym, ◌∙◌, ap, subst, nat_eq}
use Rattle.std.proofs.Common.{eqb-true, true≢false}
use Rattle.std.proofs.lemmas.Bool.{eq-eqb}
use Rattle.std.specs.List.{AllByRecursion, find, list_any}
use Rattle.wf_layers.specs.Address.{Table}
use Rattle.wf_layers.specs.Definition.{Closed, ClosedAny, ClosedIn, Graph, IsDepth, Branches, Names}
use Rattle.wf_layers.specs.Definition.{Need, has, has_any, has_own, holds, needs_any, needs_in, needs_of}
use Rattle.wf_layers.specs.Definition as layers
use Rattle.wf_layers.specs.Seen.{Once, OnceAny, OnceIn}
use Rattle.wf_layers.proofs.Basics.{two, or_first, or_second, same_self, when, unless}
use Rattle.wf_def.specs.ActionTree.{ActionTree, action, action_after, action_kind, action_number, actions_in}
use Rattle.wf_def.specs.ActionTree.{KindTree, compose, connector, wait, response, terminate}
use Rattle.wf_def.specs.ActionTree.{select, query, join, parse_json, initialize, set_to, increment, decrement, append_array, append_string}
use Rattle.wf_def.specs.ActionTree.{scope, branch, switch, switch_else, foreach, until, ActionTrees, no_actions, action_then, CaseTrees}
use Rattle.wf_def.specs.ActionTree.{no_cases, case_then}
use Rattle.wf_def.specs.AllActions.{all_actions, cases_actions, has_number, kind_actions, numbered}
use Rattle.wf_def.specs.Layered.{layered, layered_cases, layered_kind, need_of}
use Rattle.wf_def.specs.declared.after.After.{After}
use Rattle.wf_record.specs.Record.{Row}
use Rattle.wf_closing.specs.Status.{graph_status}
use Rattle.wf_closing.specs.Inside.{AreJudged, IsJudged, case_graphs}
use Rattle.wf_closing.specs.Judged.{status_by}
use Rattle.wf_closing.specs.Steps.{FallInside, StandApart, after_of, judged_of}
use Rattle.wf_loops.proofs.HeldLemmas.{not_first, not_own, passed}

-- ---- lists

all_joined : {X : Type 0} (P : X → Type 0) (xs ys : List X) → AllByRecursion P xs → AllByRecursion P ys → AllByRecursion P (xs ++ ys)
all_joined P [] ys one other = other
all_joined P (x ∷ xs) ys one other = (one.0, all_joined P xs ys one.1 other)

all_both : {X : Type 0} (P Q R : X → Type 0) (xs : List X) → ((x : X) → P x → Q x → R x) → AllByRecursion P xs → AllByRecursion Q xs
    → AllByRecursion R xs
all_both P Q R [] both ps qs = tt
all_both P Q R (x ∷ xs) both ps qs = (both x ps.0 qs.0, all_both P Q R xs both ps.1 qs.1)

not_one : (p q : Bool) → (p || q) ≡ false → p ≡ false
not_one true q off = off
not_one false q off = refl

not_other : (p q : Bool) → (p || q) ≡ false → q ≡ false
not_other true q off = absurd (true≢false off)
not_other false q off = off

flipped : (n m : ℕ) (b : Bool) → nat_eq n m ≡ b → nat_eq m n ≡ b
flipped n m true is = eq-eqb m n (sym (eqb-true n m is))
flipped n m false off = elim (two (nat_eq m n)) [
  | inl t ↦ absurd (true≢false (sym (eq-eqb n m (sym (eqb-true m n t))) ∙ off))
  | inr f ↦ f
]

-- ---- each action stands once in its graph

others : (rest : ActionTrees) (m : ℕ) → has (layered rest) m ≡ false
    → AllByRecursion (λ b. has_number (action_number b) (action [] m [] [] (scope no_actions) []) ≡ false) (actions_in rest)
others no_actions m off = tt
others (action_then (action name number pointer after kind tracked) rest) m off = (
  not_one (nat_eq number m) (holds (layered_kind kind) m) (not_one (nat_eq number m || holds (layered_kind kind) m) (has (layered rest) m) off),
  others rest m (not_other (nat_eq number m || holds (layered_kind kind) m) (has (layered rest) m) off),
)

apart : (graph : ActionTrees) → Once (layered graph) → StandApart (actions_in graph)
apart no_actions once = tt
apart (action_then (action name number pointer after kind tracked) rest) once =
    let first : ActionTree = action name number pointer after kind tracked in (
      when (nat_eq number number) (Some first) (find (has_number number) (actions_in rest)) (same_self number),
      all_both (λ b. has_number (action_number b) (action [] number [] [] (scope no_actions) []) ≡ false)
          (λ b. find (has_number (action_number b)) (actions_in rest) ≡ Some b)
          (λ b. find (has_number (action_number b)) (first ∷ actions_in rest) ≡ Some b)
          (actions_in rest)
          (λ b other found. unless (nat_eq (action_number b) number) (Some first) (find (has_number (action_number b)) (actions_in rest)) other ∙ found)
          (others rest number (once.1 number (or_first (nat_eq number number) (holds (layered_kind kind) number) (same_self number))))
          (apart rest once.3),
    )

-- ---- each waits for actions of its graph alone

own_any : (graph : ActionTrees) (p : ℕ) → has_own (layered graph) p ≡ true → list_any (has_number p) (actions_in graph) ≡ true
own_any no_actions p own = own
own_any (action_then (action name number pointer after kind tracked) rest) p own = elim (two (nat_eq number p)) [
  | inl t ↦ or_first (nat_eq p number) (list_any (has_number p) (actions_in rest)) (flipped number p true t)
  | inr f ↦
      or_second (nat_eq p number) (list_any (has_number p) (actions_in rest))
      (own_any rest p (sym (ap (λ b. b || has_own (layered rest) p) f) ∙ own))
]

each_need : (Q : ℕ → Type 0) (es : List After) → ((p : ℕ) → Names (map need_of es) p → Q p) → AllByRecursion Q (map (λ e. e.number) es)
each_need Q [] named = tt
each_need Q (e ∷ es) named = (named e.number (inl refl), each_need Q es (λ p is. named p (inr is)))

module _ (depth : ℕ → ℕ) where
  -- depths fall along the entries of what is held
  abbrev Fall : (ℕ → Bool) → (ℕ → List Need) → Type 0
  Fall held needs = (p a : ℕ) → held a ≡ true → Names (needs a) p → depth p < depth a

  fall_first : (b : Graph) (rest : Branches) → Fall (has_any (layers.branch b rest)) (needs_any (layers.branch b rest))
      → Fall (has b) (needs_of b)
  fall_first b rest fall p a here named =
      fall p a (or_first (has b a) (has_any rest a) here)
      (subst (λ (ns : List Need). Names ns p) (sym (when (has b a) (needs_of b a) (needs_any rest a) here)) named)

  fall_rest : (b : Graph) (rest : Branches) → ((m : ℕ) → has b m ≡ true → has_any rest m ≡ false)
      → Fall (has_any (layers.branch b rest)) (needs_any (layers.branch b rest)) → Fall (has_any rest) (needs_any rest)
  fall_rest b rest once fall p a there named =
      fall p a (or_second (has b a) (has_any rest a) there)
      (subst (λ (ns : List Need). Names ns p) (sym (unless (has b a) (needs_of b a) (needs_any rest a) (not_first rest a b there once))) named)

  module _ (number : ℕ) (after : List Need) (kind : layers.Kind) (rest : Graph) where
    fall_own : Fall (has (layers.add number after kind rest)) (needs_of (layers.add number after kind rest))
        → (p : ℕ) → Names after p → depth p < depth number
    fall_own fall p named =
        fall p number
        (or_first (nat_eq number number || holds kind number) (has rest number) (or_first (nat_eq number number) (holds kind number) (same_self number)))
        (subst (λ (ns : List Need). Names ns p)
        (sym (when (nat_eq number number) after (cond (holds kind number) (needs_in kind number) (needs_of rest number)) (same_self number))) named)

    fall_inside : holds kind number ≡ false
        → Fall (has (layers.add number after kind rest)) (needs_of (layers.add number after kind rest)) → Fall (holds kind) (needs_in kind)
    fall_inside off fall p a held named =
        fall p a (or_first (nat_eq number a || holds kind a) (has rest a) (or_second (nat_eq number a) (holds kind a) held))
        (subst (λ (ns : List Need). Names ns p)
        (sym (unless (nat_eq number a) after (cond (holds kind a) (needs_in kind a) (needs_of rest a)) (not_own a number kind off held)
        ∙ when (holds kind a) (needs_in kind a) (needs_of rest a) held)) named)

    fall_behind : ((q : ℕ) → (nat_eq number q || holds kind q) ≡ true → has rest q ≡ false)
        → Fall (has (layers.add number after kind rest)) (needs_of (layers.add number after kind rest)) → Fall (has rest) (needs_of rest)
    fall_behind once fall p a there named =
        let away = passed number kind rest once a there in
        fall p a (or_second (nat_eq number a || holds kind a) (has rest a) there)
        (subst (λ (ns : List Need). Names ns p)
        (sym (unless (nat_eq number a) after (cond (holds kind a) (needs_in kind a) (needs_of rest a)) away.0
        ∙ unless (holds kind a) (needs_in kind a) (needs_of rest a) away.1)) named)

  inside : (whole graph : ActionTrees) → Once (layered graph) → Closed (layered graph) (layered whole)
      → Fall (has (layered graph)) (needs_of (layered graph))
      → AllByRecursion (λ a. AllByRecursion (λ n. (list_any (has_number n) (actions_in whole) ≡ true) × (depth n < depth (action_number a)))
      (after_of a)) (actions_in graph)
  inside whole no_actions once closed fall = tt
  inside whole (action_then (action name number pointer after kind tracked) rest) once closed fall = (
    each_need (λ n. (list_any (has_number n) (actions_in whole) ≡ true) × (depth n < depth number)) after
        (λ p named. (own_any whole p (closed.0 p named), fall_own number (map need_of after) (layered_kind kind) (layered rest) fall p named)),
    inside whole rest once.3 closed.2 (fall_behind number (map need_of after) (layered_kind kind) (layered rest) once.1 fall),
  )

  module _ (steps : (graph : List ActionTree) → StandApart graph → FallInside graph depth → (at : List ℕ) (known : Table Row)
      → status_by at known (judged_of graph) ≡ graph_status graph at known) where
    is_judged : (graph : ActionTrees) → Once (layered graph) → Closed (layered graph) (layered graph)
        → Fall (has (layered graph)) (needs_of (layered graph)) → IsJudged graph
    is_judged graph once closed fall = steps (actions_in graph) (apart graph once) (inside graph graph once closed fall)

    last_branch : (cases : CaseTrees) (b : Graph) → OnceAny (layered_cases cases (layers.branch b layers.no_branch))
        → ClosedAny (layered_cases cases (layers.branch b layers.no_branch))
        → Fall (has_any (layered_cases cases (layers.branch b layers.no_branch)))
        (needs_any (layered_cases cases (layers.branch b layers.no_branch)))
        → Once b × (Closed b b × Fall (has b) (needs_of b))
    last_branch no_cases b once closed fall = (once.1, (closed.0, fall_first b layers.no_branch fall))
    last_branch (case_then name value graph rest) b once closed fall =
        last_branch rest b once.2 closed.1 (fall_rest (layered graph) (layered_cases rest (layers.branch b layers.no_branch)) once.0 fall)

    abbrev Judges : ActionTree → Type 0
    Judges a = AreJudged (action_kind a)

    judged_cases : (cases : CaseTrees) (last : Branches) → OnceAny (layered_cases cases last) → ClosedAny (layered_cases cases last)
        → Fall (has_any (layered_cases cases last)) (needs_any (layered_cases cases last)) → AllByRecursion IsJudged (case_graphs cases)
    judged_cases no_cases last once closed fall = tt
    judged_cases (case_then name value graph rest) last once closed fall = (
      is_judged graph once.1 closed.0 (fall_first (layered graph) (layered_cases rest last) fall),
      judged_cases rest last once.2 closed.1 (fall_rest (layered graph) (layered_cases rest last) once.0 fall),
    )

    judged_kind : (kind : KindTree) → OnceIn (layered_kind kind) → ClosedIn (layered_kind kind)
        → Fall (holds (layered_kind kind)) (needs_in (layered_kind kind)) → AreJudged kind
    judged_kind (compose inputs) once closed fall = tt
    judged_kind (connector inputs policy) once closed fall = tt
    judged_kind (wait inputs) once closed fall = tt
    judged_kind (response inputs) once closed fall = tt
    judged_kind (terminate inputs) once closed fall = tt
    judged_kind (select from item) once closed fall = tt
    judged_kind (query from filter) once closed fall = tt
    judged_kind (join from with') once closed fall = tt
    judged_kind (parse_json content schema) once closed fall = tt
    judged_kind (initialize variables) once closed fall = tt
    judged_kind (set_to name value) once closed fall = tt
    judged_kind (increment name value) once closed fall = tt
    judged_kind (decrement name value) once closed fall = tt
    judged_kind (append_array name value) once closed fall = tt
    judged_kind (append_string name value) once closed fall = tt
    judged_kind (scope graph) once closed fall = (is_judged graph once closed fall, tt)
    judged_kind (branch test yes' no') once closed fall = (
      is_judged yes' once.1 closed.0 (fall_first (layered yes') (layers.branch (layered no') layers.no_branch) fall),
      (
        is_judged no' once.2.1 closed.1.0 (fall_first (layered no') layers.no_branch
            (fall_rest (layered yes') (layers.branch (layered no') layers.no_branch) once.0 fall)),
        tt,
      ),
    )
    judged_kind (switch on cases) once closed fall = judged_cases cases (layers.branch layers.done layers.no_branch) once closed fall
    judged_kind (switch_else on cases default) once closed fall =
        let behind = last_branch cases (layered default) once closed fall in
        all_joined IsJudged (case_graphs cases) (default ∷ [])
        (judged_cases cases (layers.branch (layered default) layers.no_branch) once closed fall)
        (is_judged default behind.0 behind.1.0 behind.1.1, tt)
    judged_kind (foreach items repetitions graph) once closed fall = (is_judged graph once closed fall, tt)
    judged_kind (until test count fails graph) once closed fall = (is_judged graph once closed fall, tt)

    mutual
      judged_all : (graph whole : ActionTrees) → Once (layered graph) → Closed (layered graph) (layered whole)
          → Fall (has (layered graph)) (needs_of (layered graph)) → AllByRecursion Judges (all_actions graph)
      judged_all no_actions whole once closed fall = tt
      judged_all (action_then (action name number pointer after kind tracked) rest) whole once closed fall =
          let within = fall_inside number (map need_of after) (layered_kind kind) (layered rest) once.0 fall in (
            judged_kind kind once.2 closed.1 within,
            all_joined Judges (kind_actions kind) (all_actions rest) (judged_inner kind once.2 closed.1 within)
                (judged_all rest whole once.3 closed.2
                (fall_behind number (map need_of after) (layered_kind kind) (layered rest) once.1 fall)),
          )

      judged_inner : (kind : KindTree) → OnceIn (layered_kind kind) → ClosedIn (layered_kind kind)
          → Fall (holds (layered_kind kind)) (needs_in (layered_kind kind)) → AllByRecursion Judges (kind_actions kind)
      judged_inner (compose inputs) once closed fall = tt
      judged_inner (connector inputs policy) once closed fall = tt
      judged_inner (wait inputs) once closed fall = tt
      judged_inner (response inputs) once closed fall = tt
      judged_inner (terminate inputs) once closed fall = tt
      judged_inner (select from item) once closed fall = tt
      judged_inner (query from filter) once closed fall = tt
      judged_inner (join from with') once closed fall = tt
      judged_inner (parse_json content schema) once closed fall = tt
      judged_inner (initialize variables) once closed fall = tt
      judged_inner (set_to name value) once closed fall = tt
      judged_inner (increment name value) once closed fall = tt
      judged_inner (decrement name value) once closed fall = tt
      judged_inner (append_array name value) once closed fall = tt
      judged_inner (append_string name value) once closed fall = tt
      judged_inner (scope graph) once closed fall = judged_all graph graph once closed fall
      judged_inner (branch test yes' no') once closed fall =
          all_joined Judges (all_actions yes') (all_actions no')
          (judged_all yes' yes' once.1 closed.0 (fall_first (layered yes') (layers.branch (layered no') layers.no_branch) fall))
          (judged_all no' no' once.2.1 closed.1.0 (fall_first (layered no') layers.no_branch
          (fall_rest (layered yes') (layers.branch (layered no') layers.no_branch) once.0 fall)))
      judged_inner (switch on cases) once closed fall = judged_inside cases (layers.branch layers.done layers.no_branch) once closed fall
      judged_inner (switch_else on cases default) once closed fall =
          let behind = last_branch cases (layered default) once closed fall in
          all_joined Judges (cases_actions cases) (all_actions default)
          (judged_inside cases (layers.branch (layered default) layers.no_branch) once closed fall)
          (judged_all default default behind.0 behind.1.0 behind.1.1)
      judged_inner (foreach items repetitions graph) once closed fall = judged_all graph graph once closed fall
      judged_inner (until test count fails graph) once closed fall = judged_all graph graph once closed fall

      judged_inside : (cases : CaseTrees) (last : Branches) → OnceAny (layered_cases cases last) → ClosedAny (layered_cases cases last)
          → Fall (has_any (layered_cases cases last)) (needs_any (layered_cases cases last)) → AllByRecursion Judges (cases_actions cases)
      judged_inside no_cases last once closed fall = tt
      judged_inside (case_then name value graph rest) last once closed fall =
          all_joined Judges (all_actions graph) (cases_actions rest)
          (judged_all graph graph once.1 closed.0 (fall_first (layered graph) (layered_cases rest last) fall))
          (judged_inside rest last once.2 closed.1 (fall_rest (layered graph) (layered_cases rest last) once.0 fall))

    -- THE LAW
    pub all_judged : (graph : ActionTrees) → Once (layered graph) → Closed (layered graph) (layered graph) → IsDepth (layered graph) depth
        → AllByRecursion (λ a. AreJudged (action_kind a)) (all_actions graph)
    all_judged graph once closed falls = judged_all graph graph once closed (λ p a held named. falls p a named)

found_judged : (n : ℕ) (as' : List ActionTree) (a : ActionTree) → AllByRecursion (λ b. AreJudged (action_kind b)) as'
    → find (has_number n) as' ≡ Some a → AreJudged (action_kind a)
found_judged n [] a all is = absurd (cc)
found_judged n (b ∷ as') a all is = elim (two (has_number n b)) [
  | inl t ↦
      let same : Some b ≡ Some a = sym (when (has_number n b) (Some b) (find (has_number n) as') t) ∙ is in
      let it : b ≡ a = cc in
      subst (λ (q : ActionTree). AreJudged (action_kind q)) it all.0
  | inr f ↦ found_judged n as' a all.1 (sym (unless (has_number n b) (Some b) (find (has_number n) as') f) ∙ is)
]

pub numbered_judged : (n : ℕ) (graph : ActionTrees) (a : ActionTree) → AllByRecursion (λ b. AreJudged (action_kind b)) (all_actions graph)
    → numbered n graph ≡ Some a → AreJudged (action_kind a)
numbered_judged n graph a all is = found_judged n (all_actions graph) a all is
