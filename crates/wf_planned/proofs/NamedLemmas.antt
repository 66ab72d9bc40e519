-- Where entries have the numbers of the actions that they name, and names differ, each action names another once at most.
use Rattle.std.proofs.Common.{◌≡◌, ℕ, suc, ◌<◌, ◌≤◌, true, false, ◌||◌, List, [], ◌∷◌, ◌++◌, map, ⊎_elim, nat_eq, bytes_eq}
use Rattle.std.proofs.Common.{refl, sym, ap, ◌∙◌, arith, eqb-true, true≢false}
use Rattle.std.specs.List.{AllByRecursion}
use Rattle.std.proofs.lemmas.Bool.{eq-eqb}
use Rattle.std.proofs.lemmas.Cmp.{nat_list_cmp_total, tied_itself}
use Rattle.std.specs.declared.cmp.Ordering.TheVariants.{Less, Equal}
use Rattle.wf_layers.specs.Definition.{Branches, has, has_own, holds}
use Rattle.wf_layers.specs.Definition as layers
use Rattle.wf_layers.specs.Seen.{Once, OnceAny, OnceIn}
use Rattle.wf_layers.specs.Waiting.{times}
use Rattle.wf_layers.proofs.Basics.{two, either, or_first, or_second, when, unless}
use Rattle.wf_layers.proofs.Waiting.{own_has}
use Rattle.wf_val.specs.NameOrder.{bytes_cmp, IsInNameOrder}
use Rattle.wf_def.specs.ActionTree.{ActionTree, action, action_after, action_name, KindTree, compose, connector, wait}
use Rattle.wf_def.specs.ActionTree.{response, terminate, select, query, join, parse_json, initialize, set_to, increment, decrement}
use Rattle.wf_def.specs.ActionTree.{append_array, append_string, scope, branch, switch, switch_else, foreach, until, ActionTrees}
use Rattle.wf_def.specs.ActionTree.{no_actions, action_then, actions_in, CaseTrees, no_cases, case_then}
use Rattle.wf_def.specs.AllActions.{all_actions, cases_actions, kind_actions}
use Rattle.wf_def.specs.Layered.{layered, layered_cases, layered_kind, need_of}
use Rattle.wf_def.specs.declared.after.After.{After}
use Rattle.wf_reading.specs.Facts.{HasDepths, is_named}
use Rattle.wf_reading.proofs.PartLemmas.{equal_keys}
use Rattle.wf_plan.specs.Once.{NamesOnce}
use Rattle.wf_plan.proofs.NumberLemmas.{once_last}
use Rattle.wf_known_laws.specs.Each.{EachCase, EachGraph, EachIn, EachInside}
use Rattle.wf_known_laws.specs.Held.{EntriesAreNumbered, IsNumberOf}
use Rattle.wf_planned.specs.Order.{EntriesAreInOrder}

all_joined : {X : Type 0} (P : X → Type 0) (xs ys : List X) → AllByRecursion P xs → AllByRecursion P ys → AllByRecursion P (xs ++ ys)
all_joined P [] ys one other = other
all_joined P (x ∷ xs) ys one other = (one.0, all_joined P xs ys one.1 other)

-- ---- what an entry names

-- the action that an entry names has its number
own_named : (e : After) (g : ActionTrees) → AllByRecursion (IsNumberOf e) (actions_in g) → is_named e.name (actions_in g) ≡ true
    → has_own (layered g) e.number ≡ true
own_named e no_actions numbers named = absurd (true≢false (sym named))
own_named e (action_then (action name number pointer after kind tracked) rest) numbers named =
    ⊎_elim
    (λ is. or_first (nat_eq number e.number) (has_own (layered rest) e.number) (eq-eqb number e.number (numbers.0 is)))
    (λ later. or_second (nat_eq number e.number) (has_own (layered rest) e.number) (own_named e rest numbers.1 later))
    (either (bytes_eq e.name name) (is_named e.name (actions_in rest)) named)

-- it isn't behind an action of the same number
not_behind : (number : ℕ) (kind : layers.Kind) (rest : ActionTrees)
    → ((m : ℕ) → (nat_eq number m || holds kind m) ≡ true → has (layered rest) m ≡ false) → (f : After)
    → AllByRecursion (IsNumberOf f) (actions_in rest) → is_named f.name (actions_in rest) ≡ true → number ≡ f.number → ⊥
not_behind number kind rest apart f numbers later same =
    true≢false (sym (own_has (layered rest) f.number (own_named f rest numbers later))
    ∙ apart f.number (or_first (nat_eq number f.number) (holds kind f.number) (eq-eqb number f.number same)))

same_name : (g : ActionTrees) → Once (layered g) → (e f : After) → AllByRecursion (IsNumberOf e) (actions_in g)
    → AllByRecursion (IsNumberOf f) (actions_in g) → is_named e.name (actions_in g) ≡ true → is_named f.name (actions_in g) ≡ true
    → e.number ≡ f.number → e.name ≡ f.name
same_name no_actions once e f one other named named' same = absurd (true≢false (sym named))
same_name (action_then (action name number pointer after kind tracked) rest) once e f one other named named' same =
    ⊎_elim
    (λ is. ⊎_elim
    (λ is'. equal_keys e.name name is ∙ sym (equal_keys f.name name is'))
    (λ later. absurd (not_behind number (layered_kind kind) rest once.1 f other.1 later (one.0 is ∙ same)))
    (either (bytes_eq f.name name) (is_named f.name (actions_in rest)) named'))
    (λ later. ⊎_elim
    (λ is'. absurd (not_behind number (layered_kind kind) rest once.1 e one.1 later (other.0 is' ∙ sym same)))
    (λ later'. same_name rest once.3 e f one.1 other.1 later later' same)
    (either (bytes_eq f.name name) (is_named f.name (actions_in rest)) named'))
    (either (bytes_eq e.name name) (is_named e.name (actions_in rest)) named)

-- ---- one graph

module _ (w : ActionTrees) (once : Once (layered w)) (depth : List ℕ → ℕ) where
  abbrev Entry : List ℕ → After → Type 0
  Entry own e = (is_named e.name (actions_in w) ≡ true) × (depth e.name < depth own)

  abbrev IsNumbered : After → Type 0
  IsNumbered e = AllByRecursion (IsNumberOf e) (actions_in w)

  -- a name below another isn't the same
  apart : (e f : After) → is_named e.name (actions_in w) ≡ true → is_named f.name (actions_in w) ≡ true → IsNumbered e → IsNumbered f
      → bytes_cmp e.name f.name ≡ Less → e.number ≡ f.number → ⊥
  apart e f named named' one other less same =
      let is : e.name ≡ f.name = same_name w once e f one other named named' same in
      let tied : Less ≡ Equal = sym less ∙ ap (bytes_cmp e.name) (sym is) ∙ tied_itself nat_list_cmp_total e.name in
      absurd (cc (tied))

  none_later : (own : List ℕ) (n : ℕ) (e : After) → is_named e.name (actions_in w) ≡ true → IsNumbered e → e.number ≡ n
      → (es : List After) → AllByRecursion (λ (f : After). bytes_cmp e.name f.name ≡ Less) es → AllByRecursion (Entry own) es
      → AllByRecursion IsNumbered es → times (map need_of es) n ≡ 0
  none_later own n e named one is [] less entries numbers = refl
  none_later own n e named one is (f ∷ es) less entries numbers =
      ⊎_elim
      (λ t. absurd (apart e f named entries.0.0 one numbers.0 less.0 (is ∙ sym (eqb-true f.number n t))))
      (λ u. unless (nat_eq f.number n) (suc (times (map need_of es) n)) (times (map need_of es) n) u
      ∙ none_later own n e named one is es less.1 entries.1 numbers.1)
      (two (nat_eq f.number n))

  once_named : (own : List ℕ) (n : ℕ) (es : List After) → IsInNameOrder (λ (e : After). e.name) es → AllByRecursion (Entry own) es
      → AllByRecursion IsNumbered es → times (map need_of es) n ≤ 1
  once_named own n [] order entries numbers = omega arith
  once_named own n (e ∷ es) order entries numbers =
      ⊎_elim
      (λ t. let first = when (nat_eq e.number n) (suc (times (map need_of es) n)) (times (map need_of es) n) t in
      let others = none_later own n e entries.0.0 numbers.0 (eqb-true e.number n t) es order.0 entries.1 numbers.1 in
      omega (arith, first, others))
      (λ u. let later = unless (nat_eq e.number n) (suc (times (map need_of es) n)) (times (map need_of es) n) u in
      omega (arith, later, once_named own n es order.1 entries.1 numbers.1))
      (two (nat_eq e.number n))

  actions_once : (as' : List ActionTree) → AllByRecursion (λ a. AllByRecursion (Entry (action_name a)) (action_after a)) as'
      → AllByRecursion (λ a. AllByRecursion IsNumbered (action_after a)) as'
      → AllByRecursion (λ a. IsInNameOrder (λ (e : After). e.name) (action_after a)) as' → AllByRecursion NamesOnce as'
  actions_once [] entries numbers order = tt
  actions_once (action name number pointer after kind tracked ∷ as') entries numbers order =
      ((λ n. once_named name n after order.0 entries.0 numbers.0), actions_once as' entries.1 numbers.1 order.1)

own_once : (g : ActionTrees) → Once (layered g) → HasDepths g → EntriesAreNumbered g → EntriesAreInOrder g
    → AllByRecursion NamesOnce (actions_in g)
own_once g once depths numbers order = actions_once g once depths.depth (actions_in g) depths.falls numbers order

-- ---- each graph

mutual
  inside : (g : ActionTrees) → Once (layered g) → AllByRecursion NamesOnce (actions_in g) → EachInside HasDepths g
      → EachInside EntriesAreNumbered g → EachInside EntriesAreInOrder g → AllByRecursion NamesOnce (all_actions g)
  inside no_actions once own depths numbers order = tt
  inside (action_then (action name number pointer after kind tracked) rest) once own depths numbers order = (
    own.0,
    all_joined NamesOnce (kind_actions kind) (all_actions rest) (inside_kind kind once.2 depths.0 numbers.0 order.0)
        (inside rest once.3 own.1 depths.1 numbers.1 order.1),
  )

  inside_kind : (kind : KindTree) → OnceIn (layered_kind kind) → EachIn HasDepths kind → EachIn EntriesAreNumbered kind
      → EachIn EntriesAreInOrder kind → AllByRecursion NamesOnce (kind_actions kind)
  inside_kind (compose inputs) once depths numbers order = tt
  inside_kind (connector inputs policy) once depths numbers order = tt
  inside_kind (wait inputs) once depths numbers order = tt
  inside_kind (response inputs) once depths numbers order = tt
  inside_kind (terminate inputs) once depths numbers order = tt
  inside_kind (select from item) once depths numbers order = tt
  inside_kind (query from filter) once depths numbers order = tt
  inside_kind (join from with') once depths numbers order = tt
  inside_kind (parse_json content schema) once depths numbers order = tt
  inside_kind (initialize variables) once depths numbers order = tt
  inside_kind (set_to name value) once depths numbers order = tt
  inside_kind (increment name value) once depths numbers order = tt
  inside_kind (decrement name value) once depths numbers order = tt
  inside_kind (append_array name value) once depths numbers order = tt
  inside_kind (append_string name value) once depths numbers order = tt
  inside_kind (scope graph) once depths numbers order =
      inside graph once (own_once graph once depths.0 numbers.0 order.0) depths.1 numbers.1 order.1
  inside_kind (branch test yes' no') once depths numbers order =
      all_joined NamesOnce (all_actions yes') (all_actions no')
      (inside yes' once.1 (own_once yes' once.1 depths.0.0 numbers.0.0 order.0.0) depths.0.1 numbers.0.1 order.0.1)
      (inside no' once.2.1 (own_once no' once.2.1 depths.1.0 numbers.1.0 order.1.0) depths.1.1 numbers.1.1 order.1.1)
  inside_kind (switch on cases) once depths numbers order =
      inside_cases cases (layers.branch layers.done layers.no_branch) once depths numbers order
  inside_kind (switch_else on cases default) once depths numbers order =
      let last = once_last cases (layered default) once in
      all_joined NamesOnce (cases_actions cases) (all_actions default)
      (inside_cases cases (layers.branch (layered default) layers.no_branch) once depths.0 numbers.0 order.0)
      (inside default last (own_once default last depths.1.0 numbers.1.0 order.1.0) depths.1.1 numbers.1.1 order.1.1)
  inside_kind (foreach items repetitions graph) once depths numbers order =
      inside graph once (own_once graph once depths.0 numbers.0 order.0) depths.1 numbers.1 order.1
  inside_kind (until test count fails graph) once depths numbers order =
      inside graph once (own_once graph once depths.0 numbers.0 order.0) depths.1 numbers.1 order.1

  inside_cases : (cases : CaseTrees) (last : Branches) → OnceAny (layered_cases cases last) → EachCase HasDepths cases
      → EachCase EntriesAreNumbered cases → EachCase EntriesAreInOrder cases → AllByRecursion NamesOnce (cases_actions cases)
  inside_cases no_cases last once depths numbers order = tt
  inside_cases (case_then name value graph rest) last once depths numbers order =
      all_joined NamesOnce (all_actions graph) (cases_actions rest)
      (inside graph once.1 (own_once graph once.1 depths.0.0 numbers.0.0 order.0.0) depths.0.1 numbers.0.1 order.0.1)
      (inside_cases rest last once.2 depths.1 numbers.1 order.1)

pub all_once : (g : ActionTrees) → Once (layered g) → EachGraph HasDepths g → EachGraph EntriesAreNumbered g
    → EachGraph EntriesAreInOrder g → AllByRecursion NamesOnce (all_actions g)
all_once g once depths numbers order = inside g once (own_once g once depths.0 numbers.0 order.0) depths.1 numbers.1 order.1
