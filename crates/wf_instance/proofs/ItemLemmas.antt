-- THE ITEMS of the loops round an instance, and all that is told there.
use Rattle.std.proofs.Common.{◌≡◌, ℕ, ◌≤◌, true, List, [], ◌∷◌, ◌++◌, length, Option, Some, None, refl, ap, ◌∙◌, subst}
use Rattle.wf_val.specs.Address.{address_text}
use Rattle.wf_layers.specs.Address.{Address, Table, address, SeenIn}
use Rattle.wf_layers.specs.Seen.{Once}
use Rattle.wf_layers.specs.Source.{Agrees}
use Rattle.wf_meant.specs.Told.{Told}
use Rattle.wf_meant.specs.Uses.{Use, AgreeAt}
use Rattle.wf_meant.specs.ActionTree.{ActionTree, action_kind, KindTree}
use Rattle.wf_meant.specs.AllActions.{numbered}
use Rattle.wf_meant.specs.DefTree.{DefTree}
use Rattle.wf_meant.specs.Decisions.{DecisionTree, decided}
use Rattle.wf_meant.specs.OpeningUses.{opening_uses}
use Rattle.wf_record.specs.Record.{Row}
use Rattle.wf_meant.specs.Environment.{Environment, facts_of}
use Rattle.wf_meant.specs.Loops.{loops_of, paces_round}
use Rattle.wf_meant.specs.Look.{Item, decided_by, decided_within, instance, item_in, items_at, items_from, name_of, told_at, told_within}
use Rattle.wf_meant.specs.Points.{graph_of, point_of, sees}
use Rattle.wf_instance.proofs.LookLemmas.{AllRead, agree_all}

abbrev pub DecisionsAreLocal : Type 0
DecisionsAreLocal = (l m : Told) (kind : KindTree) → AgreeAt l m (opening_uses kind) → decided l kind ≡ decided m kind

-- what is known of a definition whose rules hold
pub record Kept (d : DefTree) : Type 0 where
  pub once : Once (graph_of d)
  -- of an instance: the loops round another action and it are no more than its indexes, and what it sees by the words of the meaning it
  -- sees
  pub deep : (y : Address) → length y.at ≡ length (loops_of (graph_of d) y.name) → (x : ℕ) → length
      (paces_round (graph_of d) x y.name) ≤ length y.at
  pub earlier : (x y : Address) → sees (point_of d y) x ≡ true → SeenIn (graph_of d) y x
  -- what it names as it opens it sees
  pub opening : (n : ℕ) (a : ActionTree) → numbered n d.top ≡ Some a → AllRead d n (opening_uses (action_kind a))

module _ (d : DefTree) (e : Environment) (kept : Kept d) (local : DecisionsAreLocal) (t u : Table Row) where
  -- the instance has an index for each loop round it, and the tables agree on what it sees
  pub record Alike (y : Address) : Type 0 where
    pub full : length y.at ≡ length (loops_of (graph_of d) y.name)
    pub agree : Agrees (SeenIn (graph_of d)) y t u

  decided_same : (y : Address) (held : List Item) (found : Option ActionTree) → numbered y.name d.top ≡ found → Alike y
      → decided_by found (told_within d e y held t) ≡ decided_by found (told_within d e y held u)
  decided_same y held None is alike = refl
  decided_same y held (Some a) is alike =
      local (told_within d e y held t) (told_within d e y held u) (action_kind a)
      (agree_all d kept.once y t u alike.agree (kept.deep y alike.full) (λ x. kept.earlier x y) e.start (facts_of e (name_of d y.name))
      (address_text (instance d y)) held None (opening_uses (action_kind a)) (kept.opening y.name a is))

  -- the loops round an instance, each at its own indexes
  abbrev pub Opened : List ℕ → List ℕ → List ℕ → Type 0
  Opened [] js at = Unit {0}
  Opened (l ∷ ls) [] at = Unit {0}
  Opened (l ∷ ls) (j ∷ js) at = Alike (address l at) × Opened ls js (at ++ j ∷ [])

  pub items_same : (ls js at : List ℕ) (held : List Item) → Opened ls js at
      → items_from d e ls js at held t ≡ items_from d e ls js at held u
  items_same [] js at held opened = refl
  items_same (l ∷ ls) [] at held opened = refl
  items_same (l ∷ ls) (j ∷ js) at held opened =
      ap (λ (o : DecisionTree). items_from d e ls js (at ++ j ∷ []) (held ++ item_in d e (name_of d l) j o) t)
      (decided_same (address l at) held (numbered l d.top) refl opened.0)
      ∙ items_same ls js (at ++ j ∷ []) (held ++ item_in d e (name_of d l) j (decided_within d e (address l at) held u)) opened.1

  -- ALL THAT IS TOLD at an instance agrees where its expressions ask
  pub told_agrees : (y : Address) → Alike y → Opened (loops_of (graph_of d) y.name) y.at [] → (us : List Use) → AllRead d y.name us
      → AgreeAt (told_at d e y t) (told_at d e y u) us
  told_agrees y alike opened us reads =
      subst (λ (held : List Item). AgreeAt (told_at d e y t)
      (told_within d e y held u) us)
      (items_same (loops_of (graph_of d) y.name) y.at [] [] opened)
      (agree_all d kept.once y t u alike.agree (kept.deep y alike.full) (λ x. kept.earlier x y) e.start (facts_of e (name_of d y.name))
      (address_text (instance d y)) (items_at d e (point_of d y) t) None us reads)
