-- The state from which an old record is gone on is the first of a run.
use Rattle.std.proofs.Common.{◌≡◌, ℕ, None}
use Rattle.wf_layers.specs.Address.{Address}
use Rattle.wf_layers.specs.Definition.{Graph}
use Rattle.wf_layers.specs.Machine.{State}
use Rattle.wf_layers.specs.Source.{Source}
use Rattle.wf_kept.specs.Reached.{IsReached, IsResumption, resumption}
use Rattle.wf_kept.proofs.Informed.{kinds_are_known, open_stands}
use Rattle.wf_kept.proofs.Resumed.{resumption_is_reached, resumption_is_untaken, resumption_opens}
use Rattle.wf_drive.specs.Driven.{IsFirst}

module _ {Row Begun Decision Verdict : Type 0} (d : Graph) (depth : ℕ → ℕ) where
  none_runs : (m : Source Row Begun Decision Verdict) (s : State Row Begun Decision Verdict) → IsResumption d depth m s → (x : Address)
      → s.running x ≡ None
  none_runs _ s (resumption a b redo again r recall falls closed sb old is) x = is.running x

  pub is_first : (m : Source Row Begun Decision Verdict) (s : State Row Begun Decision Verdict) → IsResumption d depth m s
      → IsFirst d m depth s
  is_first m s from =
      let reached : IsReached d depth m s = resumption_is_reached d depth m s from in
      record {
        not_begun = record {
          running = none_runs m s from;
          opens = λ x w is.
              let stands = open_stands d depth m s reached x w is in
              let known = (kinds_are_known d depth m s reached x.name x.at stands.0.0 stands.0.1 stands.0.3).0 in
              (resumption_opens d depth m s from x.name x.at w is stands.0.1 known).1;
        };
        none_taken = resumption_is_untaken d depth m s from;
      }
