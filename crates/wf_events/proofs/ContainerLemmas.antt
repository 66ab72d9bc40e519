-- An open container that is found in its list, and looked at anew.
use Rattle.std.proofs.Common.{◌≡◌, ℕ, suc, ◌-◌, List, [], ◌∷◌, ◌++◌, Option, Some, option_map, sym, ap, ◌∙◌, arith}
use Rattle.wf_lists.specs.KeyOrder.{find_key}
use Rattle.wf_layers.specs.Address.{Address, Table, address}
use Rattle.wf_layers.specs.Changes.{next_of}
use Rattle.wf_layers.specs.Machine as machine
use Rattle.wf_layers.specs.Source.{Source}
use Rattle.wf_tables.specs.Instances.{address_of, instance_cmp}
use Rattle.wf_tables.specs.Known.{open_tree, opens_in}
use Rattle.wf_tables.specs.Instance.{Instance}
use Rattle.wf_tables.specs.OpenAt.{OpenAt}
use Rattle.wf_tables.specs.Plan.{EntryTree, PlanTree}
use Rattle.wf_tables.specs.PlanSeen.{at_place}
use Rattle.wf_tables.specs.Tables.{count_or_none, event_at, left_in}
use Rattle.wf_tables.specs.declared.entries.EventKind.{EventKind}
use Rattle.wf_tables.proofs.OpenLemmas.{found_at}
use Rattle.wf_events.specs.Events.{open_kind}
use Rattle.wf_events.specs.Looked.{open_at, open_by}

module _ {Decision Verdict : Type 0} (k : Instance) (xs : List (OpenAt Decision Verdict)) (o : OpenAt Decision Verdict)
    (found : Some o ≡ find_key instance_cmp (λ (z : OpenAt Decision Verdict). z.instance) k xs) where
  is_at : o.instance ≡ k
  is_at = found_at (λ (z : OpenAt Decision Verdict). z.instance) k xs o (sym found)

  next_there : next_of (opens_in (λ d. d) (λ v. v) xs (address_of k)) ≡ o.next
  next_there = ap (λ z. next_of (option_map (open_tree (λ d. d) (λ v. v)) z)) (sym found)

  -- the key of its last iteration
  pub last_key : (last : Address)
      → last ≡ address k.action (k.at ++ (next_of (opens_in (λ d. d) (λ v. v) xs (address_of k)) - 1) ∷ [])
      → (j : ℕ) → o.next ≡ suc j → last ≡ address o.instance.action (o.instance.at ++ j ∷ [])
  last_key last e j is =
      let more = next_there ∙ is in
      let one_less : next_of (opens_in (λ d. d) (λ v. v) xs (address_of k)) - 1 ≡ j = omega (arith, more) in
      e ∙ ap (λ z. address k.action (k.at ++ z ∷ [])) one_less ∙ ap (λ (z : Instance). address z.action (z.at ++ j ∷ [])) (sym is_at)

  module _ {Row Begun Decided Told : Type 0} (decided : Decision → Decided) (told : Verdict → Told) (m : Source Row Begun Decided Told)
      (lacks : Table ℕ) (p : PlanTree) (e : EntryTree) (entry : Some e ≡ at_place p.entries k.action) where
    abbrev event : Option EventKind → Option machine.Event
    event = option_map (λ kind. event_at kind k.action k.at)

    pub container_looked : (r : Option EventKind)
        → r ≡ open_kind m lacks o.unfinished e.shape o.instance.action o.instance.at (open_tree decided told o)
        → option_map (λ kind. event_at kind k.action k.at) r ≡ open_at m (opens_in decided told xs) lacks (left_in xs) p (address_of k)
    container_looked r tells =
        ap event (tells
        ∙ ap (λ (z : Instance). open_kind m lacks o.unfinished e.shape z.action z.at (open_tree decided told o)) is_at
        ∙ ap (λ u. open_kind m lacks u e.shape k.action k.at (open_tree decided told o)) (ap count_or_none found))
        ∙ ap (λ w. open_by m (Some e) w lacks (left_in xs (address_of k)) k.action k.at) (ap (option_map (open_tree decided told)) found)
        ∙ ap (λ z. open_by m z (opens_in decided told xs (address_of k)) lacks (left_in xs (address_of k)) k.action k.at) entry
