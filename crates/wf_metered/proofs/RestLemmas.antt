-- Sums beside a state are those by any plan of its graph.
use Rattle.std.proofs.Common.{◌≡◌, ℕ, List, [], ◌∷◌, option_map, inl, inr, refl, ap, ◌∙◌, arith}
use Rattle.wf_val.specs.Cut.{cut_u64}
use Rattle.wf_lists.specs.KeyOrder.{IsInKeyOrder}
use Rattle.wf_layers.specs.Definition.{Graph}
use Rattle.wf_layers.specs.Listed.{Among, sum_of}
use Rattle.wf_layers.specs.Source.{Source}
use Rattle.wf_kept.specs.Reached.{IsReached}
use Rattle.wf_asks.specs.Instances.{address_of, instance_cmp}
use Rattle.wf_asks.specs.Known.{open_tree}
use Rattle.wf_asks.specs.declared.known.OpenAt.{OpenAt}
use Rattle.wf_asks.specs.declared.known.RowAt.{RowAt}
use Rattle.wf_meter.specs.Plan.{PlanTree}
use Rattle.wf_meter.specs.PlanOf.{IsPlanOf}
use Rattle.wf_meter.specs.Tables.{state_of}
use Rattle.wf_meter.specs.LeafAt.{LeafAt}
use Rattle.wf_meter.specs.Parts.{turns_part}
use Rattle.wf_meter.proofs.PriceLemmas.{found_own, priced}
use Rattle.wf_metered.specs.Sums.{AreSums, AreSumsOf}
use Rattle.wf_metered.specs.declared.sums.Sums.{Sums}

sum_same : {E : Type 0} (f g : E → ℕ) (xs : List E) → ((e : E) → Among xs e → f e ≡ g e) → sum_of f xs ≡ sum_of g xs
sum_same f g [] h = refl
sum_same f g (x ∷ xs) h =
    let here = h x (inl refl) in
    let rest = sum_same f g xs (λ e a. h e (inr a)) in
    omega (arith, here, rest)

module _ {Row Begun Decision Verdict Kept Started Decided Told : Type 0} (see : Row → Kept) (started : Begun → Started)
    (decided : Decision → Decided) (told : Verdict → Told) (d : Graph) (depth : ℕ → ℕ) (m : Source Kept Started Decided Told)
    (p : PlanTree) (plan : IsPlanOf d p) (rows : List (RowAt Row)) (running : List (LeafAt Begun)) (opens : List (OpenAt Decision Verdict))
    (reached : IsReached d depth m (state_of see started decided told rows running opens))
    (by_opens : IsInKeyOrder instance_cmp (λ (o : OpenAt Decision Verdict). o.instance) opens) where
  -- What an open container costs is told by its kind, which each plan of the graph has.
  turns_same : (p' : PlanTree) → IsPlanOf d p' → (items : Decided → ℕ) (o : OpenAt Decision Verdict) → Among opens o
      → turns_part p items (address_of o.instance) (open_tree decided told o)
      ≡ turns_part p' items (address_of o.instance) (open_tree decided told o)
  turns_same p' plan' items o among =
      let there = ap (option_map (open_tree decided told))
      (found_own (λ (z : OpenAt Decision Verdict). z.instance) opens by_opens o among) in
      let one = priced d depth m p plan (state_of see started decided told rows running opens) reached items (λ c. 0)
      (address_of o.instance) (open_tree decided told o) there in
      let other = priced d depth m p' plan' (state_of see started decided told rows running opens) reached items (λ c. 0)
      (address_of o.instance) (open_tree decided told o) there in
      ap cut_u64 (omega (arith, one, other))

  pub sums_are_of : (cost : Kept → ℕ) (begun_weight : Started → ℕ) (items weight : Decided → ℕ) (sums : Sums)
      → AreSums see started decided told p cost begun_weight items weight rows running opens sums
      → AreSumsOf see started decided told d cost begun_weight items weight rows running opens sums
  sums_are_of cost begun_weight items weight sums are p' plan' = record {
    rows_are = are.rows_are;
    running_are = are.running_are;
    turns_are = are.turns_are ∙ sum_same _ _ opens (turns_same p' plan' items);
    decisions_are = are.decisions_are;
  }
