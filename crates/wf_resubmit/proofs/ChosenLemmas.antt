-- Where nothing is refused, the actions of the names are there, and stand in no loop.
use Rattle.std.proofs.Common.{◌≡◌, ℕ, Bool, true, false, ◌||◌, cond, List, [], ◌∷◌, ◌++◌, Option, Some, None, is_none, is_some, ◌⊎◌, inl, inr, refl, sym, ap, ◌∙◌, subst, nat_eq, eqb-true, append_assoc, append-nil, true≢false}
use Rattle.std.specs.Prelude.{bytes_eq}
use Rattle.std.specs.List.{find}
use Rattle.wf_layers.specs.Definition as layers
use Rattle.wf_layers.specs.Definition.{Graph, Branches, has, has_any, holds}
use Rattle.wf_layers.specs.Redo.{OutOfLoops, OutOfLoopsAny, OutOfLoopsIn}
use Rattle.wf_layers.specs.Seen.{Once, OnceAny, OnceIn}
use Rattle.wf_layers.proofs.Basics.{and_of, either, not_true, or_first, or_second, same_self, two, unless, when}
use Rattle.wf_def.specs.ActionTree.{ActionTree, action, action_kind, action_number, KindTree, scope, branch, switch, switch_else, foreach, until, ActionTrees, no_actions, action_then, CaseTrees, no_cases, case_then}
use Rattle.wf_def.specs.AllActions.{all_actions, cases_actions, kind_actions}
use Rattle.wf_def.specs.Layered.{layered, layered_cases, layered_kind}
use Rattle.wf_def.specs.Names.{find_cases, find_in, find_inside, first_of}
use Rattle.wf_loops.specs.Loops.{loops_any, loops_in, loops_of}
use Rattle.wf_loops.proofs.RoundLemmas.{split_of}
use Rattle.wf_loops.specs.Order.{IsBelow}
use Rattle.wf_loops.specs.Table.{OrderTree, contains, order_of}
use Rattle.wf_loops.proofs.RelationLemmas.{contains_is}
use Rattle.wf_redo.specs.Sets.{is_chosen}
use Rattle.wf_resubmit.specs.Chosen.{ChosenMayBeRedone, MayBeRedone}
use Rattle.wf_resubmit.specs.Least.{IsLeastOf, NoneHolds, least_of}
use Rattle.wf_resubmit.specs.Refused as refusals
use Rattle.wf_resubmit.specs.Refused.{in_loop, is_in_loop, is_loop, is_missing, is_round, no_action, number_of, numbers_of, refused, refused_by_loops, refused_by_rows}
use Rattle.wf_resubmit.specs.declared.fault.ResubmitFault.{ResubmitFault}
use Rattle.wf_resubmit.proofs.LeastLemmas.{least_is}

clash : (b : Bool) → b ≡ true → b ≡ false → ⊥
clash b yes' no' = true≢false (sym yes' ∙ no')

second : (p q : Bool) → p ≡ false → (p || q) ≡ true → q ≡ true
second p q out is = ap (λ c. c || q) (sym out) ∙ is

-- ---- the action of a name is there

first_split : (p q : Option ActionTree) (a : ActionTree) → first_of p q ≡ Some a → (p ≡ Some a) ⊎ (q ≡ Some a)
first_split None q a is = inr is
first_split (Some b) q a is = inl is

some_same : (a b : ActionTree) → Some a ≡ Some b → a ≡ b
some_same a b is = cc

last_stands : (cases : CaseTrees) (last : Branches) (x : ℕ) → has_any last x ≡ true → has_any (layered_cases cases last) x ≡ true
last_stands no_cases last x h = h
last_stands (case_then name value graph rest) last x h =
    or_second (has (layered graph) x) (has_any (layered_cases rest last) x) (last_stands rest last x h)

mutual
  found_stands : (k : List ℕ) (t : ActionTrees) (a : ActionTree) → find_in k t ≡ Some a → has (layered t) (action_number a) ≡ true
  found_stands k no_actions a is = absurd (cc)
  found_stands k (action_then (action name number pointer after kind tracked) rest) a is =
      let own : Option ActionTree =
      cond (bytes_eq k name) (Some (action name number pointer after kind tracked)) (find_inside k kind) in
      let n : ℕ = action_number a in
      elim (first_split own (find_in k rest) a is) [
        | inl here ↦
            or_first (nat_eq number n || holds (layered_kind kind) n) (has (layered rest) n)
            (elim (two (bytes_eq k name)) [
              | inl same ↦
                  or_first (nat_eq number n) (holds (layered_kind kind) n)
                  (ap (nat_eq number)
                  (sym (ap action_number (some_same (action name number pointer after kind tracked) a
                  (sym (when (bytes_eq k name) (Some (action name number pointer after kind tracked)) (find_inside k kind) same) ∙ here))))
                  ∙ same_self number)
              | inr other ↦
                  or_second (nat_eq number n) (holds (layered_kind kind) n)
                  (found_inside k kind a
                  (sym (unless (bytes_eq k name) (Some (action name number pointer after kind tracked)) (find_inside k kind) other) ∙ here))
            ])
        | inr later ↦ or_second (nat_eq number n || holds (layered_kind kind) n) (has (layered rest) n) (found_stands k rest a later)
      ]

  found_inside : (k : List ℕ) (kind : KindTree) (a : ActionTree) → find_inside k kind ≡ Some a
      → holds (layered_kind kind) (action_number a) ≡ true
  found_inside k (scope graph) a is = found_stands k graph a is
  found_inside k (branch test yes' no') a is = elim (first_split (find_in k yes') (find_in k no') a is) [
    | inl one ↦ or_first (has (layered yes') (action_number a)) (has (layered no') (action_number a) || false) (found_stands k yes' a one)
    | inr other ↦
        or_second (has (layered yes') (action_number a)) (has (layered no') (action_number a) || false)
        (or_first (has (layered no') (action_number a)) false (found_stands k no' a other))
  ]
  found_inside k (switch on cases) a is = found_cases k cases (layers.branch layers.done layers.no_branch) a is
  found_inside k (switch_else on cases default) a is = elim (first_split (find_cases k cases) (find_in k default) a is) [
    | inl one ↦ found_cases k cases (layers.branch (layered default) layers.no_branch) a one
    | inr other ↦
        last_stands cases (layers.branch (layered default) layers.no_branch) (action_number a)
        (or_first (has (layered default) (action_number a)) false (found_stands k default a other))
  ]
  found_inside k (foreach items repetitions graph) a is = found_stands k graph a is
  found_inside k (until test count fails graph) a is = found_stands k graph a is
  found_inside k kind a is = absurd (cc)

  found_cases : (k : List ℕ) (cases : CaseTrees) (last : Branches) (a : ActionTree) → find_cases k cases ≡ Some a
      → has_any (layered_cases cases last) (action_number a) ≡ true
  found_cases k no_cases last a is = absurd (cc)
  found_cases k (case_then name value graph rest) last a is = elim (first_split (find_in k graph) (find_cases k rest) a is) [
    | inl one ↦
        or_first (has (layered graph) (action_number a)) (has_any (layered_cases rest last) (action_number a)) (found_stands k graph a one)
    | inr other ↦
        or_second (has (layered graph) (action_number a)) (has_any (layered_cases rest last) (action_number a))
        (found_cases k rest last a other)
  ]

-- ---- a loop round an action is among all actions

abbrev HasLoop : ℕ → List ActionTree → Type 0
HasLoop l [] = ⊥
HasLoop l (a ∷ as') = ((action_number a ≡ l) × (is_loop (action_kind a) ≡ true)) ⊎ HasLoop l as'

had_left : (l : ℕ) (as' bs : List ActionTree) → HasLoop l as' → HasLoop l (as' ++ bs)
had_left l [] bs h = absurd h
had_left l (a ∷ as') bs (inl own) = inl own
had_left l (a ∷ as') bs (inr later) = inr (had_left l as' bs later)

had_right : (l : ℕ) (as' bs : List ActionTree) → HasLoop l bs → HasLoop l (as' ++ bs)
had_right l [] bs h = h
had_right l (a ∷ as') bs h = inr (had_right l as' bs h)

same_head : (n l : ℕ) (ns ls : List ℕ) → n ∷ ns ≡ l ∷ ls → n ≡ l
same_head n l ns ls is = cc

no_loop : (l : ℕ) (ls : List ℕ) → [] ≡ l ∷ ls → ⊥
no_loop l ls is = cc

one_branch : (b : Graph) (x l : ℕ) (ls : List ℕ) → loops_any (layers.branch b layers.no_branch) x ≡ l ∷ ls → loops_of b x ≡ l ∷ ls
one_branch b x l ls is = elim (two (has b x)) [
  | inl one ↦ sym (when (has b x) (loops_of b x) [] one) ∙ is
  | inr none ↦ absurd (no_loop l ls (sym (unless (has b x) (loops_of b x) [] none) ∙ is))
]

mutual
  loops_had : (t : ActionTrees) (x l : ℕ) (ls : List ℕ) → loops_of (layered t) x ≡ l ∷ ls → HasLoop l (all_actions t)
  loops_had no_actions x l ls is = absurd (no_loop l ls is)
  loops_had (action_then (action name number pointer after kind tracked) rest) x l ls is = elim (two (holds (layered_kind kind) x)) [
    | inl held ↦
        elim (kind_had kind number x l ls
        (sym (when (holds (layered_kind kind) x) (loops_in number (layered_kind kind) x) (loops_of (layered rest) x) held) ∙ is)) [
          | inl own ↦ inl own
          | inr deeper ↦ inr (had_left l (kind_actions kind) (all_actions rest) deeper)
        ]
    | inr out ↦
        inr (had_right l (kind_actions kind) (all_actions rest)
        (loops_had rest x l ls
        (sym (unless (holds (layered_kind kind) x) (loops_in number (layered_kind kind) x) (loops_of (layered rest) x) out) ∙ is)))
  ]

  kind_had : (kind : KindTree) (n x l : ℕ) (ls : List ℕ) → loops_in n (layered_kind kind) x ≡ l ∷ ls
      → ((n ≡ l) × (is_loop kind ≡ true)) ⊎ HasLoop l (kind_actions kind)
  kind_had (scope graph) n x l ls is = inr (loops_had graph x l ls is)
  kind_had (branch test yes' no') n x l ls is = inr (elim (two (has (layered yes') x)) [
    | inl one ↦
        had_left l (all_actions yes') (all_actions no')
        (loops_had yes' x l ls (sym (when (has (layered yes') x) (loops_of (layered yes') x) _ one) ∙ is))
    | inr out ↦
        let later : cond (has (layered no') x) (loops_of (layered no') x) [] ≡ l ∷ ls =
        sym (unless (has (layered yes') x) (loops_of (layered yes') x) (cond (has (layered no') x) (loops_of (layered no') x) []) out)
        ∙ is in
        elim (two (has (layered no') x)) [
          | inl other ↦
              had_right l (all_actions yes') (all_actions no')
              (loops_had no' x l ls (sym (when (has (layered no') x) (loops_of (layered no') x) [] other) ∙ later))
          | inr none ↦ absurd (no_loop l ls (sym (unless (has (layered no') x) (loops_of (layered no') x) [] none) ∙ later))
        ]
  ])
  kind_had (switch on cases) n x l ls is =
      inr (subst (λ (as' : List ActionTree). HasLoop l as') (append-nil (cases_actions cases))
      (cases_had cases (layers.branch layers.done layers.no_branch) [] x l ls (λ none. absurd (no_loop l ls none)) is))
  kind_had (switch_else on cases default) n x l ls is =
      inr (cases_had cases (layers.branch (layered default) layers.no_branch) (all_actions default) x l ls
      (λ last. loops_had default x l ls (one_branch (layered default) x l ls last)) is)
  kind_had (foreach items repetitions graph) n x l ls is = inl (same_head n l (loops_of (layered graph) x) ls is, refl)
  kind_had (until test count fails graph) n x l ls is = inl (same_head n l (loops_of (layered graph) x) ls is, refl)
  kind_had kind n x l ls is = absurd (no_loop l ls is)

  cases_had : (cases : CaseTrees) (last : Branches) (others : List ActionTree) (x l : ℕ) (ls : List ℕ)
      → (loops_any last x ≡ l ∷ ls → HasLoop l others) → loops_any (layered_cases cases last) x ≡ l ∷ ls
      → HasLoop l (cases_actions cases ++ others)
  cases_had no_cases last others x l ls last_had is = last_had is
  cases_had (case_then name value graph rest) last others x l ls last_had is = elim (two (has (layered graph) x)) [
    | inl one ↦
        had_left l (all_actions graph ++ cases_actions rest) others (had_left l (all_actions graph) (cases_actions rest)
        (loops_had graph x l ls
        (sym (when (has (layered graph) x) (loops_of (layered graph) x) (loops_any (layered_cases rest last) x) one) ∙ is)))
    | inr out ↦
        subst (λ (as' : List ActionTree). HasLoop l as') (sym (append_assoc (all_actions graph) (cases_actions rest) others))
        (had_right l (all_actions graph) (cases_actions rest ++ others)
        (cases_had rest last others x l ls last_had
        (sym (unless (has (layered graph) x) (loops_of (layered graph) x) (loops_any (layered_cases rest last) x) out) ∙ is)))
  ]

-- where none of them contains it, none is round it
none_contains : (o : OrderTree) (x l : ℕ) (as' : List ActionTree) → find (is_round o x) as' ≡ None → contains o l x ≡ true
    → HasLoop l as' → ⊥
none_contains o x l [] none is h = h
none_contains o x l (a ∷ as') none is h = elim (two (is_round o x a)) [
  | inl round ↦ some_none a (sym (when (is_round o x a) (Some a) (find (is_round o x) as') round) ∙ none)
  | inr out ↦ elim h [
    | inl own ↦
        clash (is_round o x a)
        (and_of (is_loop (action_kind a)) (contains o (action_number a) x) own.1 (ap (λ (n : ℕ). contains o n x) own.0 ∙ is)) out
    | inr later ↦
        none_contains o x l as' (sym (unless (is_round o x a) (Some a) (find (is_round o x) as') out) ∙ none) is later
  ]
]
  where
    some_none : (b : ActionTree) → Some b ≡ None → ⊥
    some_none b is' = cc

-- ---- where no loop is round the chosen, none of them stands in one

module _ (chosen : ℕ → Bool) where
  abbrev Free : (ℕ → Bool) → (ℕ → List ℕ) → Type 0
  Free there loops = (q : ℕ) → chosen q ≡ true → there q ≡ true → loops q ≡ []

  mutual
    out_in : (n : ℕ) (kind : layers.Kind) → OnceIn kind → Free (holds kind) (loops_in n kind) → OutOfLoopsIn chosen kind
    out_in n layers.Leaf once free = tt
    out_in n (layers.Scope g) once free = out_of g once free
    out_in n (layers.Choice bs) once free = out_any bs once free
    out_in n (layers.Foreach pace g) once free = (
      λ q h. not_true (chosen q) (λ is. no_loop n (loops_of g q) (sym (free q is h))),
      out_of g once (λ q is h. absurd (no_loop n (loops_of g q) (sym (free q is h)))),
    )
    out_in n (layers.Until most g) once free = (
      λ q h. not_true (chosen q) (λ is. no_loop n (loops_of g q) (sym (free q is h))),
      out_of g once (λ q is h. absurd (no_loop n (loops_of g q) (sym (free q is h)))),
    )

    out_any : (bs : Branches) → OnceAny bs → Free (has_any bs) (loops_any bs) → OutOfLoopsAny chosen bs
    out_any layers.no_branch once free = tt
    out_any (layers.branch b bs) once free = (
      out_of b once.1
          (λ q is h. sym (when (has b q) (loops_of b q) (loops_any bs q) h) ∙ free q is (or_first (has b q) (has_any bs q) h)),
      out_any bs once.2
          (λ q is h.
          sym (unless (has b q) (loops_of b q) (loops_any bs q)
          (not_true (has b q) (λ one. clash (has_any bs q) h (once.0 q one))))
          ∙ free q is (or_second (has b q) (has_any bs q) h)),
    )

    out_of : (g : Graph) → Once g → Free (has g) (loops_of g) → OutOfLoops chosen g
    out_of layers.done once free = tt
    out_of (layers.add n after kind rest) once free = (
      out_in n kind once.2
          (λ q is h.
          sym (when (holds kind q) (loops_in n kind q) (loops_of rest q) h)
          ∙ free q is (or_first (nat_eq n q || holds kind q) (has rest q) (or_second (nat_eq n q) (holds kind q) h))),
      out_of rest once.3
          (λ q is h.
          sym (unless (holds kind q) (loops_in n kind q) (loops_of rest q)
          (not_true (holds kind q) (λ held. clash (has rest q) h (once.1 q (or_second (nat_eq n q) (holds kind q) held)))))
          ∙ free q is (or_second (nat_eq n q || holds kind q) (has rest q) h)),
    )

-- ---- all of it

-- a chosen number is that of a name's action
record Named (graph : ActionTrees) (names : List (List ℕ)) (x : ℕ) : Type 0 where
  k : List ℕ
  number : x ≡ number_of (find_in k graph)
  missing : is_missing graph k ≡ false
  in_loops : (o : OrderTree) → NoneHolds (is_in_loop graph (all_actions graph) o) names
      → is_in_loop graph (all_actions graph) o k ≡ false

named : (graph : ActionTrees) (names : List (List ℕ)) (x : ℕ) → NoneHolds (is_missing graph) names
    → is_chosen (numbers_of graph names) x ≡ true → Named graph names x
named graph [] x there is = absurd (cc)
named graph (k ∷ ks) x there is =
    elim (either (nat_eq x (number_of (find_in k graph))) (is_chosen (numbers_of graph ks) x) is) [
      | inl own ↦ record {
        k = k;
        number = eqb-true x (number_of (find_in k graph)) own;
        missing = there.0;
        in_loops = λ o none. none.0;
      }
      | inr later ↦
          let n : Named graph ks x = named graph ks x there.1 later in
          record { k = n.k; number = n.number; missing = n.missing; in_loops = λ o none. n.in_loops o none.1 }
    ]

none_first : (a b : Option ResubmitFault) → refusals.first_of a b ≡ None → (a ≡ None) × (b ≡ None)
none_first None b is = (refl, is)
none_first (Some f) b is = absurd (cc)

none_named : (o : Option (List ℕ)) → no_action o ≡ None → o ≡ None
none_named None is = refl
none_named (Some k) is = absurd (cc)

none_looped : (graph : ActionTrees) (all : List ActionTree) (o : OrderTree) (k : Option (List ℕ)) → in_loop graph all o k ≡ None → k ≡ None
none_looped graph all o None is = refl
none_looped graph all o (Some k) is = absurd (cc)

holds_nowhere : (test : List ℕ → Bool) (names : List (List ℕ)) → least_of test names ≡ None → NoneHolds test names
holds_nowhere test names is = subst (λ (o : Option (List ℕ)). IsLeastOf test names o) is (least_is test names)

module _ (graph : ActionTrees) (n : ℕ) (below : IsBelow n (layered graph)) (once : Once (layered graph)) (names : List (List ℕ))
    (there : NoneHolds (is_missing graph) names)
    (free : NoneHolds (is_in_loop graph (all_actions graph) (order_of n (layered graph))) names) where
  record Found (x : ℕ) : Type 0 where
    a : ActionTree
    number : x ≡ action_number a
    stands : has (layered graph) x ≡ true
    alone : find (is_round (order_of n (layered graph)) x) (all_actions graph) ≡ None

  is_found : (x : ℕ) (k : List ℕ) (o : Option ActionTree) → find_in k graph ≡ o → x ≡ number_of o → is_none o ≡ false
      → is_some (refusals.loop_round (all_actions graph) (order_of n (layered graph)) o) ≡ false → Found x
  is_found x k None is number missing looped = absurd (cc)
  is_found x k (Some a) is number missing looped = record {
    a = a;
    number = number;
    stands = ap (has (layered graph)) number ∙ found_stands k graph a is;
    alone =
        ap (λ (m : ℕ). find (is_round (order_of n (layered graph)) m) (all_actions graph)) number
        ∙ none_there (find (is_round (order_of n (layered graph)) (action_number a)) (all_actions graph)) looped;
  }
    where
      none_there : (o' : Option ActionTree) → is_some o' ≡ false → o' ≡ None
      none_there None e = refl
      none_there (Some b) e = absurd (cc)

  found : (x : ℕ) → is_chosen (numbers_of graph names) x ≡ true → Found x
  found x is =
      let m : Named graph names x = named graph names x there is in
      is_found x m.k (find_in m.k graph) refl m.number m.missing (m.in_loops (order_of n (layered graph)) free)

  no_loops : (x : ℕ) → is_chosen (numbers_of graph names) x ≡ true → has (layered graph) x ≡ true → loops_of (layered graph) x ≡ []
  no_loops x is h = at_list (loops_of (layered graph) x) refl
    where
      at_list : (ls : List ℕ) → loops_of (layered graph) x ≡ ls → ls ≡ []
      at_list [] e = refl
      at_list (l ∷ ls) e =
          let f : Found x = found x is in
          let round = split_of (layered graph) once x [] l ls e in
          absurd (none_contains (order_of n (layered graph)) x l (all_actions graph) f.alone
          ((contains_is n (layered graph) below l x h).1 round.contains) (loops_had graph x l ls e))

  may_be_redone : MayBeRedone (layered graph) (numbers_of graph names)
  may_be_redone = record {
    present = λ x is. (found x is).stands;
    out_of_loops = out_of (is_chosen (numbers_of graph names)) (layered graph) once no_loops;
  }

pub chosen_may_be_redone : (graph : ActionTrees) → ChosenMayBeRedone graph
chosen_may_be_redone graph n given kept rows names below once is =
    let o : OrderTree = order_of n (layered graph) in
    let first = none_first (no_action (least_of (is_missing graph) names))
    (refusals.first_of (refused_by_loops graph o names) (refused_by_rows given kept rows names)) is in
    let next = none_first (refused_by_loops graph o names) (refused_by_rows given kept rows names) first.1 in
    may_be_redone graph n below once names
    (holds_nowhere (is_missing graph) names (none_named (least_of (is_missing graph) names) first.0))
    (holds_nowhere (is_in_loop graph (all_actions graph) o) names
    (none_looped graph (all_actions graph) o (least_of (is_in_loop graph (all_actions graph) o) names) next.0))
