-- An address is called for exactly where the definition or a row calls for it.
use Rattle.std.proofs.Common.{◌≡◌, ℕ, Bool, true, false, not, ◌||◌, cond, List, [], ◌∷◌, ◌++◌, Option, Some, None, inl, inr, refl, sym, ap, ◌∙◌, nat_eq, nat_lt, append_assoc, append-nil}
use Rattle.wf_layers.specs.Definition.{Graph, has}
use Rattle.wf_layers.specs.Address.{Address, Table, address}
use Rattle.wf_layers.specs.Seen.{Once}
use Rattle.wf_layers.specs.Shape.{Reading}
use Rattle.wf_layers.proofs.Basics.{two, when}
use Rattle.wf_shape.specs.Standing.{Standing, called, unsaid, uncalled, own, at_turn, if_fits, standing}
use Rattle.wf_ways.specs.Along.{along, calls, go_in}
use Rattle.wf_ways.specs.CalledBy.{CalledBy, at_top, inside, CalledByARow}
use Rattle.wf_ways.specs.Way.{Into, whole, branch_of, item, round, Step, step, way}
use Rattle.wf_ways.proofs.StandLemmas.{stands_along}
use Rattle.wf_ways.proofs.WayLemmas.{behind, held_by, kinded, own_stands, own_way, stands_inside, within}

-- ---- a row that is there and fits

record Fitting {Row : Type 0} (fits : Row → Bool) (o : Option Row) (past : Row → Standing) (s : Bool) : Type 0 where
  row : Row
  there : o ≡ Some row
  row_fits : fits row ≡ true
  inner : past row ≡ called s

fitting : {Row : Type 0} (fits : Row → Bool) (o : Option Row) (past : Row → Standing) (s : Bool) → if_fits fits o past ≡ called s
    → Fitting fits o past s
fitting fits None past s is = absurd (cc)
fitting fits (Some row) past s is = elim (two (fits row)) [
  | inl fine ↦ record { row = row; there = refl; row_fits = fine; inner = sym (when (fits row) (past row) unsaid fine) ∙ is }
  | inr not_so ↦ absurd (never (sym (ap (λ b. cond b (past row) unsaid) not_so) ∙ is))
]
  where
    never : unsaid ≡ called s → ⊥
    never e = cc

fit_in : {Row : Type 0} (fits : Row → Bool) (o : Option Row) (past : Row → Standing) (row : Row) → o ≡ Some row → fits row ≡ true
    → if_fits fits o past ≡ past row
fit_in fits o past row there fine =
    ap (λ o'. if_fits fits o' past) there ∙ when (fits row) (past row) unsaid fine

module _ {Row : Type 0} (read : Reading Row) (is_skipped : Row → Bool) (fits : ℕ → Bool → Row → Bool) (r : Table Row) where
  -- ---- past a row

  record Entered (into : Into) (c : ℕ) (row : Row) (i z : List ℕ) (on : Bool → List ℕ → List ℕ → Standing) (s : Bool) : Type 0 where
    front : List ℕ
    rest : List ℕ
    skipped : Bool
    split : z ≡ front ++ rest
    is_meant : calls read is_skipped fits r into row front ≡ true
    inner : on skipped (i ++ front) rest ≡ called s
    again : (on' : Bool → List ℕ → List ℕ → Standing) (more : List ℕ)
        → go_in read is_skipped fits r into c row i (front ++ more) on' ≡ on' skipped (i ++ front) more

  at_once : (into : Into) (c : ℕ) (row : Row) (i z : List ℕ) (on : Bool → List ℕ → List ℕ → Standing) (s skipped : Bool)
      → calls read is_skipped fits r into row [] ≡ true → on skipped i z ≡ called s
      → ((on' : Bool → List ℕ → List ℕ → Standing) (more : List ℕ)
      → go_in read is_skipped fits r into c row i more on' ≡ on' skipped i more)
      → Entered into c row i z on s
  at_once into c row i z on s skipped meant is same = record {
    front = [];
    rest = z;
    skipped = skipped;
    split = refl;
    is_meant = meant;
    inner = ap (λ i'. on skipped i' z) (append-nil i) ∙ is;
    again = λ on' more. same on' more ∙ ap (λ i'. on' skipped i' more) (sym (append-nil i));
  }

  turned : (count : ℕ) (z : List ℕ) (on : ℕ → List ℕ → Standing) (s : Bool) → at_turn count z on ≡ called s
      → (j : ℕ) × (more : List ℕ) × (z ≡ j ∷ more) × (nat_lt j count ≡ true) × (on j more ≡ called s)
  turned count [] on s is = absurd (cc)
  turned count (j ∷ more) on s is = elim (two (nat_lt j count)) [
    | inl below ↦ (j, more, refl, below, sym (when (nat_lt j count) (on j more) uncalled below) ∙ is)
    | inr not_so ↦ absurd (never (sym (ap (λ b. cond b (on j more) uncalled) not_so) ∙ is))
  ]
    where
      never : uncalled ≡ called s → ⊥
      never e = cc

  entered : (into : Into) (c : ℕ) (row : Row) (i z : List ℕ) (on : Bool → List ℕ → List ℕ → Standing) (s : Bool)
      → go_in read is_skipped fits r into c row i z on ≡ called s → Entered into c row i z on s
  entered whole c row i z on s is = at_once whole c row i z on s (is_skipped row) refl is (λ on' more. refl)
  entered (branch_of k) c row i z on s is =
      at_once (branch_of k) c row i z on s (is_skipped row || not (nat_eq k (read.taken c row))) refl is (λ on' more. refl)
  entered item c row i z on s is =
      let t = turned (read.items row) z (λ j more. on false (i ++ j ∷ []) more) s is in record {
        front = t.0 ∷ [];
        rest = t.1;
        skipped = false;
        split = t.2;
        is_meant = t.3;
        inner = t.4;
        again = λ on' more. when (nat_lt t.0 (read.items row)) (on' false (i ++ t.0 ∷ []) more) uncalled t.3;
      }
  entered round c row i z on s is =
      let t = turned (read.rounds row) z (λ j more. on false (i ++ j ∷ []) more) s is in record {
        front = t.0 ∷ [];
        rest = t.1;
        skipped = false;
        split = t.2;
        is_meant = t.3;
        inner = t.4;
        again = λ on' more. when (nat_lt t.0 (read.rounds row)) (on' false (i ++ t.0 ∷ []) more) uncalled t.3;
      }

  -- what the row calls for is called
  calls_in : (into : Into) (c : ℕ) (row : Row) (i more : List ℕ) → calls read is_skipped fits r into row more ≡ true
      → (t : Bool) × (go_in read is_skipped fits r into c row i more (along read is_skipped fits r []) ≡ called t)
  calls_in whole c row i [] is = (is_skipped row, refl)
  calls_in whole c row i (j ∷ more) is = absurd (cc)
  calls_in (branch_of k) c row i [] is = (is_skipped row || not (nat_eq k (read.taken c row)), refl)
  calls_in (branch_of k) c row i (j ∷ more) is = absurd (cc)
  calls_in item c row i [] is = absurd (cc)
  calls_in item c row i (j ∷ []) is = (false, when (nat_lt j (read.items row)) (called false) uncalled is)
  calls_in item c row i (j ∷ h ∷ more) is = absurd (cc)
  calls_in round c row i [] is = absurd (cc)
  calls_in round c row i (j ∷ []) is = (false, when (nat_lt j (read.rounds row)) (called false) uncalled is)
  calls_in round c row i (j ∷ h ∷ more) is = absurd (cc)

  -- ---- along a way, and one step further

  same_mark : (a b : Bool) → called a ≡ called b → a ≡ b
  same_mark a b is = cc

  ended : (skipped : Bool) (rest : List ℕ) (s : Bool) → own skipped rest ≡ called s → rest ≡ []
  ended skipped [] s is = refl
  ended skipped (j ∷ rest) s is = absurd (cc)

  called_along : (ps : List Step) (skipped : Bool) (i z more : List ℕ) (c : ℕ) (into : Into) (row : Row) (s : Bool)
      → along read is_skipped fits r ps skipped i z ≡ called s → r (address c (i ++ z)) ≡ Some row → fits c s row ≡ true
      → calls read is_skipped fits r into row more ≡ true
      → (t : Bool) × (along read is_skipped fits r (ps ++ step c into ∷ []) skipped i (z ++ more) ≡ called t)
  called_along [] skipped i [] more c into row s is there fine meant =
      let t = calls_in into c row i more meant in (
        t.0,
        fit_in (fits c skipped) (r (address c i)) (λ row'. go_in read is_skipped fits r into c row' i more
            (along read is_skipped fits r []))
            row (ap (λ i'. r (address c i')) (sym (append-nil i)) ∙ there)
            (ap (λ b. fits c b row) (same_mark skipped s is) ∙ fine)
            ∙ t.1,
      )
  called_along [] skipped i (j ∷ z) more c into row s is there fine meant = absurd (cc)
  called_along (p ∷ ps) skipped i z more c into row s is there fine meant =
      let f : Fitting (fits p.container skipped) (r (address p.container i))
      (λ row'. go_in read is_skipped fits r p.into p.container row' i z (along read is_skipped fits r ps)) s =
      fitting (fits p.container skipped) (r (address p.container i))
      (λ row'. go_in read is_skipped fits r p.into p.container row' i z (along read is_skipped fits r ps)) s is in
      let e : Entered p.into p.container f.row i z (along read is_skipped fits r ps) s =
      entered p.into p.container f.row i z (along read is_skipped fits r ps) s f.inner in
      let further : r (address c ((i ++ e.front) ++ e.rest)) ≡ Some row =
      ap (λ at'. r (address c at')) (append_assoc i e.front e.rest ∙ ap (λ w. i ++ w) (sym e.split)) ∙ there in
      let t = called_along ps e.skipped (i ++ e.front) e.rest more c into row s e.inner further fine meant in
      let split : z ++ more ≡ e.front ++ (e.rest ++ more) = ap (λ w. w ++ more) e.split ∙ append_assoc e.front e.rest more in (
        t.0,
        fit_in (fits p.container skipped) (r (address p.container i))
            (λ row'. go_in read is_skipped fits r p.into p.container row' i (z ++ more)
            (along read is_skipped fits r (ps ++ step c into ∷ []))) f.row f.there f.row_fits
            ∙ ap (λ w. go_in read is_skipped fits r p.into p.container f.row i w (along read is_skipped fits r
            (ps ++ step c into ∷ []))) split
            ∙ e.again (along read is_skipped fits r (ps ++ step c into ∷ [])) (e.rest ++ more) ∙ t.1,
      )

  record From (ps : List Step) (before : Bool) (i at' : List ℕ) (c : ℕ) (into : Into) : Type 0 where
    z : List ℕ
    more : List ℕ
    row : Row
    s : Bool
    split : at' ≡ z ++ more
    is_called : along read is_skipped fits r ps before i z ≡ called s
    there : r (address c (i ++ z)) ≡ Some row
    row_fits : fits c s row ≡ true
    is_meant : calls read is_skipped fits r into row more ≡ true

  called_from : (ps : List Step) (skipped : Bool) (i at' : List ℕ) (c : ℕ) (into : Into) (t : Bool)
      → along read is_skipped fits r (ps ++ step c into ∷ []) skipped i at' ≡ called t → From ps skipped i at' c into
  called_from [] skipped i at' c into t is =
      let f : Fitting (fits c skipped) (r (address c i))
      (λ row'. go_in read is_skipped fits r into c row' i at' (along read is_skipped fits r [])) t =
      fitting (fits c skipped) (r (address c i))
      (λ row'. go_in read is_skipped fits r into c row' i at' (along read is_skipped fits r [])) t is in
      let e : Entered into c f.row i at' (along read is_skipped fits r []) t =
      entered into c f.row i at' (along read is_skipped fits r []) t f.inner in record {
        z = [];
        more = e.front;
        row = f.row;
        s = skipped;
        split = e.split ∙ ap (λ w. e.front ++ w) (ended e.skipped e.rest t e.inner) ∙ append-nil e.front;
        is_called = refl;
        there = ap (λ i'. r (address c i')) (append-nil i) ∙ f.there;
        row_fits = f.row_fits;
        is_meant = e.is_meant;
      }
  called_from (p ∷ ps) skipped i at' c into t is =
      let f : Fitting (fits p.container skipped) (r (address p.container i))
      (λ row'. go_in read is_skipped fits r p.into p.container row' i at'
      (along read is_skipped fits r (ps ++ step c into ∷ []))) t =
      fitting (fits p.container skipped) (r (address p.container i))
      (λ row'. go_in read is_skipped fits r p.into p.container row' i at' (along read is_skipped fits r (ps ++ step c into ∷ []))) t is in
      let e : Entered p.into p.container f.row i at' (along read is_skipped fits r (ps ++ step c into ∷ [])) t =
      entered p.into p.container f.row i at' (along read is_skipped fits r (ps ++ step c into ∷ [])) t f.inner in
      let h : From ps e.skipped (i ++ e.front) e.rest c into = called_from ps e.skipped (i ++ e.front) e.rest c into t e.inner in record {
        z = e.front ++ h.z;
        more = h.more;
        row = h.row;
        s = h.s;
        split = e.split ∙ ap (λ w. e.front ++ w) h.split ∙ sym (append_assoc e.front h.z h.more);
        is_called =
            fit_in (fits p.container skipped) (r (address p.container i))
            (λ row'. go_in read is_skipped fits r p.into p.container row' i (e.front ++ h.z)
            (along read is_skipped fits r ps)) f.row f.there
            f.row_fits
            ∙ e.again (along read is_skipped fits r ps) h.z ∙ h.is_called;
        there = ap (λ at''. r (address c at'')) (sym (append_assoc i e.front h.z)) ∙ h.there;
        row_fits = h.row_fits;
        is_meant = h.is_meant;
      }

  -- ---- both ways

  no_call : (s : Bool) → uncalled ≡ called s → ⊥
  no_call s is = cc

  onward : (d : Graph) (y : Address) → Once d → (s : Bool) → standing read is_skipped fits r d y ≡ called s
      → CalledBy read is_skipped fits r d y
  onward d y once s is = elim (two (has d y.name)) [
    | inl h ↦
        let along_it = sym ((stands_along read is_skipped fits r d y.name false [] y.at).0 h) ∙ is in
        elim (held_by d y.name once h) [
          | inl own' ↦
              at_top own'
              (ended false y.at s (ap (λ w. along read is_skipped fits r w false [] y.at) (sym (own_way d y.name once own')) ∙ along_it))
          | inr v ↦
              let from : From (way d v.c) false [] y.at v.c v.into =
              called_from (way d v.c) false [] y.at v.c v.into s
              (ap (λ w. along read is_skipped fits r w false [] y.at) (sym (behind d v.c y.name v.kind v.into once v.of_kind v.stands_in))
              ∙ along_it) in
              inside (record {
                c = v.c;
                z = from.z;
                more = from.more;
                row = from.row;
                skipped = from.s;
                kind = v.kind;
                into = v.into;
                is_called =
                    (stands_along read is_skipped fits r d v.c false [] from.z).0 (kinded d v.c v.kind v.of_kind) ∙ from.is_called;
                there = from.there;
                row_fits = from.row_fits;
                of_kind = v.of_kind;
                stands_in = v.stands_in;
                is_meant = from.is_meant;
                indexes = from.split;
              })
        ]
    | inr out ↦ absurd (no_call s (sym ((stands_along read is_skipped fits r d y.name false [] y.at).1 out) ∙ is))
  ]

  back : (d : Graph) (y : Address) → Once d → CalledBy read is_skipped fits r d y
      → (s : Bool) × (standing read is_skipped fits r d y ≡ called s)
  back d y once (at_top own' at_none) = (
    false,
    (stands_along read is_skipped fits r d y.name false [] y.at).0 (own_stands d y.name own')
        ∙ ap (λ w. along read is_skipped fits r w false [] y.at) (own_way d y.name once own') ∙ ap (own false) at_none,
  )
  back d y once (inside v) =
      let h = within d v.c y.name v.kind v.of_kind (stands_inside v.kind v.into y.name v.stands_in) in
      let before = sym ((stands_along read is_skipped fits r d v.c false [] v.z).0 (kinded d v.c v.kind v.of_kind)) ∙ v.is_called in
      let t = called_along (way d v.c) false [] v.z v.more v.c v.into v.row v.skipped before v.there v.row_fits v.is_meant in (
        t.0,
        (stands_along read is_skipped fits r d y.name false [] y.at).0 h
            ∙ ap (λ w. along read is_skipped fits r w false [] y.at) (behind d v.c y.name v.kind v.into once v.of_kind v.stands_in)
            ∙ ap (along read is_skipped fits r (way d v.c ++ step v.c v.into ∷ []) false []) v.indexes ∙ t.1,
      )

  pub called_by_a_row : (d : Graph) → CalledByARow read is_skipped fits r d
  called_by_a_row d once y = (λ is. onward d y once is.0 is.1, back d y once)
