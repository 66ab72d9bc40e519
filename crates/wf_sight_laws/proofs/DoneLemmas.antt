-- What is done in a look that tells variables in another way is the same, where it tells the same of those that are asked for.
use Rattle.std.proofs.Common.{◌≡◌, ◌⊎◌, ℕ, List, Option, Some, refl, sym, ap, ◌∙◌}
use Rattle.std.specs.Prelude.{bytes_eq}
use Rattle.std.specs.List.{list_any}
use Rattle.wf_val.specs.ValueTree.{ValueTree}
use Rattle.wf_template.specs.CondTree.{CondTree}
use Rattle.wf_layers.specs.Address.{Address, Table}
use Rattle.wf_look.specs.Told.{Told}
use Rattle.wf_meant_laws.specs.Uses.{AgreeAt, Use}
use Rattle.wf_meant_laws.specs.EvalUses.{cond_uses}
use Rattle.wf_def.specs.ActionTree.{ActionTree, KindTree, action_kind, until}
use Rattle.wf_def.specs.AllActions.{numbered}
use Rattle.wf_def.specs.DefTree.{DefTree}
use Rattle.wf_meant_laws.specs.UsesTree.{ordered}
use Rattle.wf_meant_laws.specs.Sites.{test_uses}
use Rattle.wf_meant_laws.specs.AcceptedLawsVariables.{ReadsIt, WritesIt}
use Rattle.wf_meant_laws.specs.Decisions.{decided}
use Rattle.wf_meant_laws.specs.OpeningUses.{opening_uses}
use Rattle.wf_meant_laws.specs.Verdicts.{VerdictTree, tested_from}
use Rattle.wf_meant_laws.specs.Leaf.{begun, begun_from}
use Rattle.wf_meant_laws.specs.DoneUses.{kind_uses}
use Rattle.wf_record.specs.Record.{Row}
use Rattle.wf_meant_laws.specs.Environment.{Environment}
use Rattle.wf_meant_laws.specs.Containers.{tested}
use Rattle.wf_meant_laws.specs.Look.{decided_by, told_at, told_in_test}
use Rattle.wf_meant_laws.specs.Source as source_of
use Rattle.wf_meant_laws.specs.Source.{test_of}
use Rattle.wf_sight.proofs.FoundLemmas.{all_agree}
use Rattle.wf_sight_laws.proofs.LookLemmas.{at_opening, at_start, at_test}

tested_same : ((l m : Told) (c : CondTree) → AgreeAt l m (cond_uses c) → tested_from l c ≡ tested_from m c) → (l m : Told) (kind : KindTree)
    → ((us : List Use) → test_uses kind ≡ Some us → AgreeAt l m us) → tested l kind ≡ tested m kind
tested_same local l m (until test count fails graph) same =
    ap (λ (r : ℕ → VerdictTree). r 0) (local l m test (same (cond_uses test) refl))
tested_same local l m kind same = refl

module _ (same : (k : List ℕ) (ks : List (List ℕ)) → list_any (bytes_eq k) (ordered ks) ≡ list_any (bytes_eq k) ks) (d : DefTree)
    (e : Environment) (x : Address) (rows : Table Row) (a : ActionTree) (found : numbered x.name d.top ≡ Some a)
    (f : List ℕ → Option ValueTree) where
  -- at an instance
  module _ (all : (k : List ℕ) → ReadsIt d k x.name ⊎ WritesIt d k x.name → f k ≡ (told_at d e x rows).variable k) where
    abbrev there : Told
    there = told_at d e x rows

    abbrev seen : Told
    seen = record there { variable = f }

    pub starts_same : ((l m : Told) (kind : KindTree) → AgreeAt l m (kind_uses kind) → (n : ℕ) → begun_from l kind n ≡ begun_from m kind n)
        → begun seen (action_kind a) ≡ source_of.begun d e (numbered x.name d.top) x rows
    starts_same local =
        local seen there (action_kind a)
        (all_agree f there (kind_uses (action_kind a)) (at_start same d x.name a found (λ k. f k ≡ there.variable k) all)) 0
        ∙ ap (λ (o : Option ActionTree). source_of.begun d e o x rows) (sym found)

    pub decides_same : ((l m : Told) (kind : KindTree) → AgreeAt l m (opening_uses kind) → decided l kind ≡ decided m kind)
        → decided seen (action_kind a) ≡ decided_by (numbered x.name d.top) there
    decides_same local =
        local seen there (action_kind a)
        (all_agree f there (opening_uses (action_kind a)) (at_opening same d x.name a found (λ k. f k ≡ there.variable k) all))
        ∙ ap (λ (o : Option ActionTree). decided_by o there) (sym found)

  -- in a test
  module _ (j : ℕ) (all : (k : List ℕ) → ReadsIt d k x.name ⊎ WritesIt d k x.name → f k ≡ (told_in_test d e x j rows).variable k) where
    abbrev there' : Told
    there' = told_in_test d e x j rows

    abbrev seen' : Told
    seen' = record there' { variable = f }

    pub tests_same : ((l m : Told) (c : CondTree) → AgreeAt l m (cond_uses c) → tested_from l c ≡ tested_from m c)
        → tested seen' (action_kind a) ≡ test_of d e (numbered x.name d.top) x j rows
    tests_same local =
        tested_same local seen' there' (action_kind a)
        (λ us some. all_agree f there' us (at_test same d x.name a found (λ k. f k ≡ there'.variable k) all us some))
        ∙ ap (λ (o : Option ActionTree). test_of d e o x j rows) (sym found)
