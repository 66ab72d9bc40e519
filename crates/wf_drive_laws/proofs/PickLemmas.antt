-- The event at a place of a list by instances.
use Rattle.std.proofs.Common.{◌≡◌, ◌∙◌, ℕ, ◌%◌, List, [], ◌∷◌, length, map, Some, option_map, Less, slice_get, refl, sym, ap}
use Rattle.std.proofs.lemmas.List.{length-map}
use Rattle.std.proofs.lemmas.Option.{slice_get-map}
use Rattle.std.specs.List.{AllByRecursion}
use Rattle.wf_lists.specs.KeyOrder.{IsInKeyOrder, find_key}
use Rattle.wf_lists.proofs.KeyOrderLemmas.{find_key-map, in_order-map}
use Rattle.wf_layers.specs.Address.{Address}
use Rattle.wf_layers.specs.Definition.{Graph}
use Rattle.wf_layers.specs.Machine.{State, place_of}
use Rattle.wf_layers.specs.Source.{Source}
use Rattle.wf_kept.specs.Reached.{IsReached}
use Rattle.wf_scheduled.specs.Turns.{AreEnabled, IsPicked, address_cmp}
use Rattle.wf_scheduled.proofs.TurnLemmas.{listed_is}
use Rattle.wf_asks.specs.Instances.{address_of, instance_cmp, instance_of}
use Rattle.wf_steps.specs.Tables.{event_at, event_tree}
use Rattle.wf_steps.specs.EventAt.{EventAt}
use Rattle.wf_steps.specs.EventKind.{EventKind}
use Rattle.wf_steps.specs.EventKind.TheVariants.{Start, Try, End, Skip, Open, Begin, Test, Close}
use Rattle.wf_steps.specs.Kept as steps

place_is : (kind : EventKind) (n : ℕ) (i : List ℕ) → place_of (event_at kind n i) ≡ record { name = n; at = i }
place_is Start n i = refl
place_is Try n i = refl
place_is End n i = refl
place_is Skip n i = refl
place_is Open n i = refl
place_is Begin n i = refl
place_is Test n i = refl
place_is Close n i = refl

at_is : (e : EventAt) → place_of (event_tree e) ≡ address_of e.instance
at_is e = place_is e.kind e.instance.action e.instance.at

-- in order by instances is in order by addresses
all_after : (x : EventAt) (es : List EventAt) → AllByRecursion (λ e. instance_cmp x.instance e.instance ≡ Less) es
    → AllByRecursion (λ e. address_cmp (place_of (event_tree x)) (place_of (event_tree e)) ≡ Less) es
all_after x [] all = tt
all_after x (e ∷ es) all = (rw (at_is x, at_is e) all.0, all_after x es all.1)

in_order : (es : List EventAt) → IsInKeyOrder instance_cmp (λ (e : EventAt). e.instance) es
    → IsInKeyOrder address_cmp (λ (e : EventAt). place_of (event_tree e)) es
in_order [] order = tt
in_order (e ∷ es) order = (all_after e es order.0, in_order es order.1)

-- and the same is found
found_same : (x : Address) (es : List EventAt) → find_key address_cmp (λ (e : EventAt). place_of (event_tree e)) x es
    ≡ find_key instance_cmp (λ (e : EventAt). e.instance) (instance_of x) es
found_same x [] = refl
found_same x (e ∷ es) = rw (at_is e, found_same x es) refl

got_map : (es : List EventAt) (k : ℕ) (e : EventAt) → slice_get es k ≡ Some e → slice_get (map event_tree es) k ≡ Some (event_tree e)
got_map es k e is = slice_get-map event_tree es k ∙ ap (option_map event_tree) is

module _ {Row Begun Decision Verdict : Type 0} (d : Graph) (depth : ℕ → ℕ) (m : Source Row Begun Decision Verdict)
    (s : State Row Begun Decision Verdict) (reached : IsReached d depth m s) where
  are_enabled : (es : List EventAt) → steps.AreEnabled d m s es → AreEnabled d m s (map event_tree es)
  are_enabled es are =
      listed_is d m depth s reached (map event_tree es) (in_order-map address_cmp place_of event_tree es (in_order es are.in_order))
      (λ x. sym (find_key-map address_cmp place_of event_tree x es) ∙ (ap (option_map event_tree) (found_same x es) ∙ are.each x))

  pub picked : (place : ℕ) (e : EventAt) → steps.Picked d m s place e → IsPicked d m s place (event_tree e)
  picked place e p = record {
    listed = map event_tree p.listed;
    enabled = are_enabled p.listed p.enabled;
    picked = ap (λ n. slice_get (map event_tree p.listed) (place % n)) (length-map p.listed event_tree)
        ∙ got_map p.listed (place % length p.listed) e p.picked;
  }
