-- The addresses that are told are those that fail.
use Rattle.std.proofs.Common.{◌≡◌, ℕ, Bool, true, false, not, List, [], ◌∷◌, ◌++◌, flat_map, Option, Some, None}
use Rattle.std.proofs.Common.{option_map, ◌⊎◌}
use Rattle.std.proofs.Common.{is_none, is_some, inl, inr, refl, sym, ap, ap₂, ◌∙◌, subst, arith, eqb-true, true≢false}
use Rattle.std.proofs.Common.{is_eq}
use Rattle.std.specs.Prelude.{bytes_eq}
use Rattle.std.specs.List.{AllByRecursion, Contains, find}
use Rattle.std.proofs.lemmas.List.Elements.{Contains-append_right}
use Rattle.std.proofs.lemmas.Option.{none-some}
use Rattle.std.proofs.lemmas.Slice.Eq.{bytes_eq-Decides}
use Rattle.wf_layers.specs.Definition as layers
use Rattle.wf_layers.specs.Definition.{Kind, has_own, kind_of}
use Rattle.wf_layers.specs.Address.{Table, address}
use Rattle.wf_layers.specs.Seen.{Once}
use Rattle.wf_layers.specs.Shape.{Reading}
use Rattle.wf_layers.proofs.Basics.{two, unless, when}
use Rattle.wf_lists.specs.KeyOrder.{IsInKeyOrder}
use Rattle.wf_val.specs.Address.{address_cmp}
use Rattle.wf_val.specs.declared.address.Address.{Address}
use Rattle.wf_def.specs.ActionTree.{ActionTree, action_kind, action_name, action_number, actions_in}
use Rattle.wf_def.specs.AllActions.{all_actions, has_number, numbered}
use Rattle.wf_def.specs.DefTree.{DefTree}
use Rattle.wf_def.specs.Layered.{layered_kind}
use Rattle.wf_record.specs.Record.{Row, RowTree, address_of, find_row}
use Rattle.wf_record.proofs.FoundLemmas.{found_is_there}
use Rattle.wf_shape.specs.Standing.{Standing, called, fails_as, standing, uncalled, unsaid}
use Rattle.wf_ways.specs.Along.{calls}
use Rattle.wf_ways.specs.Way.{enters}
use Rattle.wf_ways.specs.CalledBy.{CalledBy, CalledInside, at_top, inside}
use Rattle.wf_ways.proofs.CallLemmas.{called_by_a_row}
use Rattle.wf_ways.proofs.StandLemmas.{stands_along}
use Rattle.wf_ways.proofs.WayLemmas.{kinded}
use Rattle.wf_catalog.specs.Look.{name_in}
use Rattle.wf_catalog.specs.Points.{action_named, graph_of, has_action_name}
use Rattle.wf_catalog.specs.Resubmitted.{rows_by}
use Rattle.wf_shaped.specs.Told.{fails_by, fails_named, held, indexes_inside, instances, instances_of, judged, judged_as, missing}
use Rattle.wf_shaped.specs.Told.{missing_at_top, stands_at, told, told_as, told_by, turns_told}
use Rattle.wf_shaped.specs.declared.judged.Judged.{Judged}
use Rattle.wf_shaped.proofs.HeldLemmas.{Entered, Held, Numbered, entered_of, has_own_of, held_is_there, held_of, own_is_there, own_of}
use Rattle.wf_shaped.proofs.ListLemmas.{In, in_filter, in_flat, in_left, in_map, in_right, in_either, of_filter, of_flat, of_map}

-- ---- what is known of the actions of a definition

pub record AreKnown (d : DefTree) : Type 0 where
  pub once : Once (graph_of d)
  pub numbers : AllByRecursion (λ a. numbered (action_number a) d.top ≡ Some a) (all_actions d.top)
  pub names : AllByRecursion (λ a. action_named d (action_name a) ≡ Some a) (all_actions d.top)
  pub kinds : (n : ℕ) → kind_of (graph_of d) n ≡ option_map (λ a. layered_kind (action_kind a)) (numbered n d.top)

all_in : {X : Type 0} (P : X → Type 0) (x : X) (xs : List X) → AllByRecursion P xs → In x xs → P x
all_in P x [] all h = absurd h
all_in P x (y ∷ ys) all (inl here) = subst P here all.0
all_in P x (y ∷ ys) all (inr later) = all_in P x ys all.1 later

found_in : {X : Type 0} (p : X → Bool) (xs : List X) (x : X) → find p xs ≡ Some x → In x xs × (p x ≡ true)
found_in p [] x is = absurd (none-some x is)
found_in {X = X} p (y ∷ ys) x is = elim (two (p y)) [
  | inl t ↦
      let same : Some y ≡ Some x = sym (when (p y) (Some y) (find p ys) t) ∙ is in
      let it : y ≡ x = cc in
      (inl it, subst (λ (z : X). p z ≡ true) it t)
  | inr f ↦ let found = found_in p ys x (sym (unless (p y) (Some y) (find p ys) f) ∙ is) in (inr found.0, found.1)
]

same_some : {X : Type 0} (x y : X) → Some x ≡ Some y → x ≡ y
same_some x y is = cc

-- ---- rows by their addresses

abbrev at_address : List ℕ → List ℕ → Address
at_address k i = record { name = k; at = i }

row_in : (y : Address) (rows : List RowTree) (r : RowTree) → find_row y rows ≡ Some r → In r rows
row_in y [] r is = absurd (none-some r is)
row_in y (x ∷ rows) r is = elim (two (is_eq (address_cmp y x.address))) [
  | inl t ↦ inl (same_some x r (sym (when (is_eq (address_cmp y x.address)) (Some x) (find_row y rows) t) ∙ is))
  | inr f ↦ inr (row_in y rows r (sym (unless (is_eq (address_cmp y x.address)) (Some x) (find_row y rows) f) ∙ is))
]

contained : (r : RowTree) (rows : List RowTree) → In r rows → Contains rows r
contained r [] h = absurd h
contained r (x ∷ rows) (inl here) = (0, omega arith, here)
contained r (x ∷ rows) (inr later) = Contains-append_right (x ∷ []) rows r (contained r rows later)

-- ---- judged

abbrev is_right : Judged → Bool
is_right Judged.Right = true
is_right j = false

abbrev is_unsaid : Judged → Bool
is_unsaid Judged.Unsaid = true
is_unsaid j = false

no_right : (j : Judged) → is_right j ≡ false → j ≡ Judged.Right → ⊥
no_right j other is = true≢false (sym (ap is_right is) ∙ other)

record IsRight (fits : Bool → Row → Bool) (s : Standing) (row : Row) : Type 0 where
  skipped : Bool
  stands : s ≡ called skipped
  row_fits : fits skipped row ≡ true

judged_right : (fits : Bool → Row → Bool) (s : Standing) (row : Row) → judged_as fits s row ≡ Judged.Right → IsRight fits s row
judged_right fits (called skipped) row is = elim (two (fits skipped row)) [
  | inl t ↦ record { skipped = skipped; stands = refl; row_fits = t }
  | inr f ↦ absurd (no_right Judged.Fails refl (sym (unless (fits skipped row) Judged.Right Judged.Fails f) ∙ is))
]
judged_right fits unsaid row is = absurd (no_right Judged.Unsaid refl is)
judged_right fits uncalled row is = absurd (no_right Judged.Fails refl is)

right_judged : (fits : Bool → Row → Bool) (s : Standing) (row : Row) (skipped : Bool) → s ≡ called skipped → fits skipped row ≡ true
    → judged_as fits s row ≡ Judged.Right
right_judged fits s row skipped stands row_fits =
    ap (λ (o : Standing). judged_as fits o row) stands ∙ when (fits skipped row) Judged.Right Judged.Fails row_fits

record Some_of {X Y : Type 0} (f : X → Y) (o : Option X) (y : Y) : Type 0 where
  x : X
  is : o ≡ Some x
  gives : f x ≡ y

some_of : {X Y : Type 0} (f : X → Y) (o : Option X) (y : Y) → option_map f o ≡ Some y → Some_of f o y
some_of f None y is = absurd (none-some y is)
some_of f (Some x) y is = record { x = x; is = refl; gives = same_some (f x) y is }

none_of : {X : Type 0} (o : Option X) → is_none o ≡ true → o ≡ None
none_of None is = refl
none_of (Some x) is = absurd (true≢false (sym is))

there_of : {X : Type 0} (o : Option X) → is_some o ≡ true → (x : X) × (o ≡ Some x)
there_of None is = absurd (true≢false (sym is))
there_of (Some x) is = (x, refl)

module _ (read : Reading Row) (is_skipped : Row → Bool) (fits : ℕ → Bool → Row → Bool) (d : DefTree) (rows : List RowTree) where
  abbrev t : Table Row
  t = rows_by d rows

  abbrev fails_so : ℕ → Standing → Option Row → Bool
  fails_so = fails_as read is_skipped fits t

  abbrev standing_at : ℕ → List ℕ → Standing
  standing_at n i = standing read is_skipped fits t (graph_of d) (address n i)

  abbrev along_at : ℕ → List ℕ → Standing
  along_at = stands_at read is_skipped fits d rows

  abbrev all_told : List Address
  all_told = missing_at_top read is_skipped fits d rows ++ flat_map (told read is_skipped fits d rows) rows

  judged_fails : (n : ℕ) (s : Standing) (row : Row) → judged_as (fits n) s row ≡ Judged.Fails → fails_so n s (Some row) ≡ true
  judged_fails n (called skipped) row is = elim (two (fits n skipped row)) [
    | inl h ↦ absurd (no_right Judged.Fails refl (sym is ∙ when (fits n skipped row) Judged.Right Judged.Fails h))
    | inr f ↦ ap not f
  ]
  judged_fails n unsaid row is = absurd (true≢false (ap is_unsaid is))
  judged_fails n uncalled row is = refl

  fails_judged : (n : ℕ) (s : Standing) (row : Row) → fails_so n s (Some row) ≡ true → judged_as (fits n) s row ≡ Judged.Fails
  fails_judged n (called skipped) row is = elim (two (fits n skipped row)) [
    | inl h ↦ absurd (true≢false (sym is ∙ ap not h))
    | inr f ↦ unless (fits n skipped row) Judged.Right Judged.Fails f
  ]
  fails_judged n unsaid row is = absurd (true≢false (sym is))
  fails_judged n uncalled row is = refl

  -- without a row only what is called for fails
  called_fails : (n : ℕ) (s : Standing) → fails_so n s None ≡ true → (b : Bool) × (s ≡ called b)
  called_fails n (called skipped) is = (skipped, refl)
  called_fails n unsaid is = absurd (true≢false (sym is))
  called_fails n uncalled is = absurd (true≢false (sym is))

  module _ (known : AreKnown d) (order : IsInKeyOrder address_cmp address_of rows) where
    abbrev IsAction : ActionTree → Type 0
    IsAction a = In a (all_actions d.top)

    by_number : (n : ℕ) (a : ActionTree) → numbered n d.top ≡ Some a → IsAction a × (action_number a ≡ n)
    by_number n a is =
        let found = found_in (has_number n) (all_actions d.top) a is in (found.0, sym (eqb-true n (action_number a) found.1))

    by_name : (k : List ℕ) (a : ActionTree) → action_named d k ≡ Some a → IsAction a × (action_name a ≡ k)
    by_name k a is =
        let found = found_in (has_action_name k) (all_actions d.top) a is in
        (found.0, sym ((bytes_eq-Decides k (action_name a)).0 found.1))

    numbered_is : (a : ActionTree) → IsAction a → numbered (action_number a) d.top ≡ Some a
    numbered_is a one = all_in (λ (b : ActionTree). numbered (action_number b) d.top ≡ Some b) a (all_actions d.top) known.numbers one

    named_is : (a : ActionTree) → IsAction a → action_named d (action_name a) ≡ Some a
    named_is a one = all_in (λ (b : ActionTree). action_named d (action_name b) ≡ Some b) a (all_actions d.top) known.names one

    same_action : (a b : ActionTree) → IsAction a → IsAction b → action_number b ≡ action_number a → b ≡ a
    same_action a b one other same =
        same_some b a (sym (numbered_is b other) ∙ ap (λ (n : ℕ). numbered n d.top) same ∙ numbered_is a one)

    kind_is : (a : ActionTree) → IsAction a → kind_of (graph_of d) (action_number a) ≡ Some (layered_kind (action_kind a))
    kind_is a one =
        known.kinds (action_number a) ∙ ap (option_map (λ (b : ActionTree). layered_kind (action_kind b))) (numbered_is a one)

    table_is : (a : ActionTree) → IsAction a → (i : List ℕ)
        → t (address (action_number a) i) ≡ option_map (λ (r : RowTree). r.row) (find_row (at_address (action_name a) i) rows)
    table_is a one i =
        ap (λ (o : Option ActionTree). option_map (λ (r : RowTree). r.row) (find_row (at_address (name_in o) i) rows)) (numbered_is a one)

    stands_is : (a : ActionTree) → IsAction a → (i : List ℕ) → standing_at (action_number a) i ≡ along_at (action_number a) i
    stands_is a one i =
        (stands_along read is_skipped fits t (graph_of d) (action_number a) false [] i).0
        (kinded (graph_of d) (action_number a) (layered_kind (action_kind a)) (kind_is a one))

    address_is : (y : Address) (r : RowTree) → find_row y rows ≡ Some r → r.address ≡ y
    address_is y r is = ((found_is_there rows r y order).0 is).1

    -- ---- what is told fails

    missing_fails : (b : ActionTree) (i : List ℕ) → IsAction b
        → CalledBy read is_skipped fits t (graph_of d) (address (action_number b) i)
        → is_none (find_row (at_address (action_name b) i) rows) ≡ true
        → fails_named read is_skipped fits d rows (at_address (action_name b) i) ≡ true
    missing_fails b i one by none =
        let stands = (called_by_a_row read is_skipped fits t (graph_of d) known.once (address (action_number b) i)).1 by in
        ap (λ (o : Option ActionTree). fails_by read is_skipped fits d rows o (at_address (action_name b) i)) (named_is b one)
        ∙ ap₂ (fails_so (action_number b)) stands.1
        (table_is b one i
        ∙ ap (option_map (λ (r : RowTree). r.row)) (none_of (find_row (at_address (action_name b) i) rows) none))

    top_fails : (y : Address) → In y (missing_at_top read is_skipped fits d rows) → fails_named read is_skipped fits d rows y ≡ true
    top_fails y h =
        let kept = of_filter (λ (z : Address). is_none (find_row z rows)) y (instances_of ([] ∷ []) (actions_in d.top)) h in
        let one = of_flat (instances ([] ∷ [])) y (actions_in d.top) kept.0 in
        let b : ActionTree = one.0 in
        let spot = of_map (at_address (action_name b)) y ([] ∷ []) one.2 in
        let empty : [] ≡ spot.0 = elim spot.1 [ inl e ↦ e | inr n ↦ absurd n ] in
        subst (λ (z : Address). fails_named read is_skipped fits d rows z ≡ true) spot.2
        (missing_fails b spot.0 (own_is_there d.top b one.1) (at_top (has_own_of d.top b one.1) (sym empty))
        (ap (λ (z : Address). is_none (find_row z rows)) spot.2 ∙ kept.1))

    row_there : (r : RowTree) → In r rows → find_row r.address rows ≡ Some r
    row_there r h = (found_is_there rows r r.address order).1 (contained r rows h, refl)

    inside_fails : (y : Address) (r : RowTree) (a : ActionTree) → In r rows → action_named d r.address.name ≡ Some a
        → IsRight (fits (action_number a)) (along_at (action_number a) r.address.at) r.row
        → In y (told_as read is_skipped fits d rows r a Judged.Right) → fails_named read is_skipped fits d rows y ≡ true
    inside_fails y r a there named right h =
        let ats = indexes_inside r.address.at (turns_told read (action_kind a) r.row) in
        let (action, name) = by_name r.address.name a named in
        let kept = of_filter (λ (z : Address). is_none (find_row z rows)) y (instances_of ats (held (action_kind a))) h in
        let one = of_flat (instances ats) y (held (action_kind a)) kept.0 in
        let b : ActionTree = one.0 in
        let spot = of_map (at_address (action_name b)) y ats one.2 in
        let w : Entered read is_skipped fits t r.row r.address.at (action_kind a) (action_number b) spot.0 =
        entered_of read is_skipped fits t r.row r.address.at (action_kind a) b spot.0 one.1 spot.1 in
        let table : t (address (action_number a) r.address.at) ≡ Some r.row =
        table_is a action r.address.at
        ∙ ap (λ (k : List ℕ). option_map (λ (q : RowTree). q.row) (find_row (at_address k r.address.at) rows)) name
        ∙ ap (option_map (λ (q : RowTree). q.row)) (row_there r there) in
        let by : CalledInside read is_skipped fits t (graph_of d) (address (action_number b) spot.0) = record {
          c = action_number a;
          z = r.address.at;
          more = w.more;
          row = r.row;
          skipped = right.skipped;
          kind = layered_kind (action_kind a);
          into = w.into;
          is_called = stands_is a action r.address.at ∙ right.stands;
          there = table;
          row_fits = right.row_fits;
          of_kind = kind_is a action;
          stands_in = w.stands_in;
          is_meant = w.is_meant;
          indexes = w.indexes;
        } in
        subst (λ (z : Address). fails_named read is_skipped fits d rows z ≡ true) spot.2
        (missing_fails b spot.0 (held_is_there a b one.1 d.top action) (inside by)
        (ap (λ (z : Address). is_none (find_row z rows)) spot.2 ∙ kept.1))

    own_fails : (y : Address) (r : RowTree) → r.address ≡ y → fails_named read is_skipped fits d rows r.address ≡ true
        → fails_named read is_skipped fits d rows y ≡ true
    own_fails y r same is = subst (λ (z : Address). fails_named read is_skipped fits d rows z ≡ true) same is

    row_fails : (y : Address) (r : RowTree) → In r rows → (o : Option ActionTree) → action_named d r.address.name ≡ o
        → In y (told_by read is_skipped fits d rows r o) → fails_named read is_skipped fits d rows y ≡ true
    row_fails y r there None none (inl same) =
        own_fails y r same (ap (λ (o : Option ActionTree). fails_by read is_skipped fits d rows o r.address) none
        ∙ ap is_some (row_there r there))
    row_fails y r there None none (inr h) = absurd h
    row_fails y r there (Some a) some h = by_judgement (judged read is_skipped fits d rows a r) refl h
      where
        by_judgement : (j : Judged) → judged read is_skipped fits d rows a r ≡ j → In y (told_as read is_skipped fits d rows r a j)
            → fails_named read is_skipped fits d rows y ≡ true
        by_judgement Judged.Right is h' =
            inside_fails y r a there some (judged_right (fits (action_number a)) (along_at (action_number a) r.address.at) r.row is) h'
        by_judgement Judged.Fails is (inl same) =
            let (one, name) = by_name r.address.name a some in
            own_fails y r same (ap (λ (o : Option ActionTree). fails_by read is_skipped fits d rows o r.address) some
            ∙ (ap₂ (fails_so (action_number a)) (stands_is a one r.address.at)
            (table_is a one r.address.at
            ∙ ap (λ (k : List ℕ). option_map (λ (q : RowTree). q.row) (find_row (at_address k r.address.at) rows)) name
            ∙ ap (option_map (λ (q : RowTree). q.row)) (row_there r there))
            ∙ judged_fails (action_number a) (along_at (action_number a) r.address.at) r.row is))
        by_judgement Judged.Fails is (inr h') = absurd h'
        by_judgement Judged.Unsaid is h' = absurd h'

    pub told_fails : (y : Address) → In y all_told → fails_named read is_skipped fits d rows y ≡ true
    told_fails y h =
        elim (in_either y (missing_at_top read is_skipped fits d rows) (flat_map (told read is_skipped fits d rows) rows) h) [
          | inl top ↦ top_fails y top
          | inr later ↦
              let one = of_flat (told read is_skipped fits d rows) y rows later in
              row_fails y one.0 one.1 (action_named d one.0.address.name) refl one.2
        ]

    -- ---- what fails is told

    row_told : (y : Address) (r : RowTree) → In r rows → In y (told read is_skipped fits d rows r) → In y all_told
    row_told y r there own =
        in_right y (missing_at_top read is_skipped fits d rows) (flat_map (told read is_skipped fits d rows) rows)
        (in_flat (told read is_skipped fits d rows) r y rows there own)

    alone_told : (y : Address) (r : RowTree) → find_row y rows ≡ Some r → told read is_skipped fits d rows r ≡ r.address ∷ []
        → In y all_told
    alone_told y r found is =
        row_told y r (row_in y rows r found) (subst (λ (l : List Address). In y l) (sym is) (inl (address_is y r found)))

    named_by : (y : Address) (r : RowTree) (o : Option ActionTree) → r.address ≡ y → action_named d y.name ≡ o
        → told read is_skipped fits d rows r ≡ told_by read is_skipped fits d rows r o
    named_by y r o same is =
        ap (told_by read is_skipped fits d rows r) (ap (λ (z : Address). action_named d z.name) same ∙ is)

    wrong_told : (y : Address) (r : RowTree) (a : ActionTree) → IsAction a → find_row y rows ≡ Some r → action_named d y.name ≡ Some a
        → fails_so (action_number a) (along_at (action_number a) y.at) (Some r.row) ≡ true → In y all_told
    wrong_told y r a one found some is =
        alone_told y r found
        (named_by y r (Some a) (address_is y r found) some
        ∙ ap (told_as read is_skipped fits d rows r a)
        (ap (λ (z : Address). judged_as (fits (action_number a)) (along_at (action_number a) z.at) r.row) (address_is y r found)
        ∙ fails_judged (action_number a) (along_at (action_number a) y.at) r.row is))

    here : (y : Address) (a b : ActionTree) → IsAction a → IsAction b → action_name a ≡ y.name → action_number b ≡ action_number a
        → action_name b ≡ y.name
    here y a b one other name number = ap action_name (same_action a b one other number) ∙ name

    kept_missing : (y : Address) (ys : List Address) → find_row y rows ≡ None → In y ys → In y (missing rows ys)
    kept_missing y ys none h = in_filter (λ (z : Address). is_none (find_row z rows)) y ys h (ap is_none none)

    top_told : (y : Address) (a : ActionTree) → IsAction a → action_name a ≡ y.name → find_row y rows ≡ None
        → has_own (graph_of d) (action_number a) ≡ true → y.at ≡ [] → In y all_told
    top_told y a one name none own empty =
        let w : Numbered (action_number a) (actions_in d.top) = own_of d.top (action_number a) own in
        let b : ActionTree = w.b in
        in_left y (missing_at_top read is_skipped fits d rows) (flat_map (told read is_skipped fits d rows) rows)
        (kept_missing y (instances_of ([] ∷ []) (actions_in d.top)) none
        (in_flat (instances ([] ∷ [])) b y (actions_in d.top) w.there
        (inl (ap₂ at_address (here y a b one (own_is_there d.top b w.there) name w.number) (sym empty)))))

    inside_told : (y : Address) (a : ActionTree) → IsAction a → action_name a ≡ y.name → find_row y rows ≡ None
        → CalledInside read is_skipped fits t (graph_of d) (address (action_number a) y.at) → In y all_told
    inside_told y a one name none v =
        let p = some_of (λ (b : ActionTree). layered_kind (action_kind b)) (numbered v.c d.top) v.kind
        (sym (known.kinds v.c) ∙ v.of_kind) in
        let c : ActionTree = p.x in
        let (action, number) = by_number v.c c p.is in
        let q = some_of (λ (r : RowTree). r.row) (find_row (at_address (action_name c) v.z) rows) v.row
        (sym (table_is c action v.z) ∙ (ap (λ (m : ℕ). t (address m v.z)) number ∙ v.there)) in
        let r : RowTree = q.x in
        let spot : r.address ≡ at_address (action_name c) v.z = address_is (at_address (action_name c) v.z) r q.is in
        let stands : along_at (action_number c) r.address.at ≡ called v.skipped =
        ap (λ (z : Address). along_at (action_number c) z.at) spot
        ∙ (sym (stands_is c action v.z) ∙ (ap (λ (m : ℕ). standing_at m v.z) number ∙ v.is_called)) in
        let right : judged read is_skipped fits d rows c r ≡ Judged.Right =
        right_judged (fits (action_number c)) (along_at (action_number c) r.address.at) r.row v.skipped stands
        (ap₂ (λ (m : ℕ) (row : Row). fits m v.skipped row) number q.gives ∙ v.row_fits) in
        let h : Held read is_skipped fits t r.row r.address.at (action_kind c) (action_number a) y.at =
        held_of read is_skipped fits t r.row r.address.at (action_kind c) v.into (action_number a) v.more y.at
        (ap (λ (k : Kind). enters k v.into (action_number a)) p.gives ∙ v.stands_in)
        (ap (λ (row : Row). calls read is_skipped fits t v.into row v.more) q.gives ∙ v.is_meant)
        (v.indexes ∙ ap (λ (z : Address). z.at ++ v.more) (sym spot)) in
        let b : ActionTree = h.one.b in
        let ats = indexes_inside r.address.at (turns_told read (action_kind c) r.row) in
        let own : In y (instances ats b) =
        subst (λ (z : Address). In z (instances ats b))
        (ap (λ (k : List ℕ). at_address k y.at)
        (here y a b one (held_is_there c b h.one.there d.top action) name h.one.number))
        (in_map (at_address (action_name b)) y.at ats h.indexes) in
        row_told y r (row_in (at_address (action_name c) v.z) rows r q.is)
        (subst (λ (l : List Address). In y l)
        (sym (named_by (at_address (action_name c) v.z) r (Some c) spot (named_is c action)
        ∙ ap (told_as read is_skipped fits d rows r c) right))
        (kept_missing y (instances_of ats (held (action_kind c))) none
        (in_flat (instances ats) b y (held (action_kind c)) h.one.there own)))

    pub failing_told : (y : Address) → fails_named read is_skipped fits d rows y ≡ true → In y all_told
    failing_told y is = go (action_named d y.name) refl is
      where
        by_table : (a : ActionTree) → IsAction a → action_name a ≡ y.name → (o : Option RowTree) → find_row y rows ≡ o
            → t (address (action_number a) y.at) ≡ option_map (λ (r : RowTree). r.row) o
        by_table a one name o found =
            table_is a one y.at
            ∙ (ap (λ (k : List ℕ). option_map (λ (r : RowTree). r.row) (find_row (at_address k y.at) rows)) name
            ∙ ap (option_map (λ (r : RowTree). r.row)) found)

        at_row : (a : ActionTree) → IsAction a → action_name a ≡ y.name → action_named d y.name ≡ Some a
            → fails_so (action_number a) (standing_at (action_number a) y.at) (t (address (action_number a) y.at)) ≡ true
            → (o : Option RowTree) → find_row y rows ≡ o → In y all_told
        at_row a one name some is (Some r) found =
            wrong_told y r a one found some
            (ap₂ (fails_so (action_number a)) (sym (stands_is a one y.at)) (sym (by_table a one name (Some r) found)) ∙ is)
        at_row a one name some is None found =
            let by = called_fails (action_number a) (standing_at (action_number a) y.at)
            (ap (fails_so (action_number a) (standing_at (action_number a) y.at)) (sym (by_table a one name None found)) ∙ is) in
            elim ((called_by_a_row read is_skipped fits t (graph_of d) known.once (address (action_number a) y.at)).0 by) [
              | at_top own empty ↦ top_told y a one name found own empty
              | inside v ↦ inside_told y a one name found v
            ]

        go : (o : Option ActionTree) → action_named d y.name ≡ o → fails_by read is_skipped fits d rows o y ≡ true → In y all_told
        go None none is =
            let there = there_of (find_row y rows) is in
            alone_told y there.0 there.1 (named_by y there.0 None (address_is y there.0 there.1) none)
        go (Some a) some is = let (one, name) = by_name y.name a some in at_row a one name some is (find_row y rows) refl
