-- The members that trees of templates give fit, one by one.
use Rattle.std.proofs.Common.{◌≡◌, ℕ, List, [], ◌∷◌, Result, Ok, Err, refl}
use Rattle.wf_val.specs.Arguments.{Answer}
use Rattle.wf_val.specs.Get.{name_of}
use Rattle.wf_val.specs.NameOrder.{put_named}
use Rattle.wf_val.specs.ValueTree.{ValueTree, Member, members, Fits}
use Rattle.wf_val.specs.declared.fault.EvalFault.{EvalFault}
use Rattle.wf_template.specs.DataTree as inputs
use Rattle.wf_look.specs.Outcomes.{Run, go_on}
use Rattle.wf_look.specs.Told.{Told}
use Rattle.wf_eval.specs.TreeValue.{member_runs, members_after}
use Rattle.wf_def.specs.DefTree.{OutputTree}
use Rattle.wf_done.specs.Tracked.{tracked_of, tracked_value}
use Rattle.wf_environment.specs.Ending.{output_runs, section}
use Rattle.wf_record_form.specs.Fitting.{AllFit, IsTracked}
use Rattle.wf_formed.specs.Known.{TreesFit}
use Rattle.wf_formed.proofs.FitLemmas.{passes, put_fits}

abbrev GivesFitting : Run → Type 0
GivesFitting r = (n : ℕ) (v : ValueTree) → (r n).0 ≡ Ok v → Fits v

abbrev GiveFitting : List (List ℕ × Run) → Type 0
GiveFitting [] = Unit {0}
GiveFitting (r ∷ rs) = GivesFitting r.1 × GiveFitting rs

abbrev pub AllFitIf : Result (List Member) EvalFault → Type 0
AllFitIf (Ok ms) = AllFit (members ms)
AllFitIf (Err f) = Unit {0}

after_fit : (rs : List (List ℕ × Run)) (done : List Member) (n : ℕ) → GiveFitting rs → AllFit (members done)
    → AllFitIf (members_after rs done n).0
after_fit [] done n give all = all
after_fit (r ∷ rs) done n give all = by (r.1 n).0 refl (λ ms m fine. after_fit rs ms m give.1 fine)
  where
    by : (a : Answer) → (r.1 n).0 ≡ a → ((ms : List Member) (m : ℕ) → AllFit (members ms) → AllFitIf (members_after rs ms m).0)
        → AllFitIf (go_on a (r.1 n).1 (λ t m. members_after rs (put_named name_of (r.0, t) done) m)).0
    by (Ok t) is rest = rest (put_named name_of (r.0, t) done) (r.1 n).1 (put_fits r.0 t done (passes t (give.0 n t is)) all)
    by (Err f) is rest = tt

module _ (fit : TreesFit) (l : Told) where
  runs_fit : (ms : inputs.DataMembers) → GiveFitting (member_runs l ms)
  runs_fit inputs.no_members = tt
  runs_fit (inputs.member_then k t ms) = (fit l t, runs_fit ms)

  outputs_fit : (os : List OutputTree) → GiveFitting (output_runs l os)
  outputs_fit [] = tt
  outputs_fit (o ∷ os) = (fit l o.value, outputs_fit os)

  tracked_by : (r : Result (List Member) EvalFault) → AllFitIf r → IsTracked (tracked_of r)
  tracked_by (Ok ms) all = all
  tracked_by (Err f) all = tt

  pub tracked_formed : (ms : List inputs.DataMember) → IsTracked (tracked_value l ms)
  tracked_formed ms = tracked_by _ (after_fit (member_runs l (inputs.data_members ms)) [] 0 (runs_fit (inputs.data_members ms)) tt)

  pub section_fits : (os : List OutputTree) → AllFitIf (section l os)
  section_fits os = after_fit (output_runs l os) [] 0 (outputs_fit os) tt
