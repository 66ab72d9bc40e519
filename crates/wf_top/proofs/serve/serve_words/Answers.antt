use Rattle.wf_top.specs.declared.words.Command.TheVariants.{Check, Drill, Fires}
use Rattle.wf_top.specs.declared.words.Command.{Command}
use Rattle.wf_top.proofs.AgainWhole.{serves_remade}
use Rattle.wf_top.proofs.Asked.{failed_word}
use Rattle.wf_top.proofs.Completeness.{serves_accepted, serves_list, serves_moments, serves_whole}
use Rattle.wf_top.proofs.DrillWhole.{serves_drill}
use Rattle.wf_top.proofs.HeldTalks.{talked_whole, told_of_none, told_of_several}
use Rattle.wf_top.proofs.Spoken.{again_no_talk, makes_no_talk, serves_again, serves_checked, serves_drilled, serves_fired, serves_listed}
use Rattle.wf_top.proofs.Spoken.{serves_ran}
use Rattle.wf_top.proofs.Talking.{apart, served_cost, served_definition, served_failed, served_faults, served_history, served_inputs}
use Rattle.wf_top.proofs.Talking.{served_le, served_left, served_misused, served_nine, served_none, served_three, served_told, served_two}
use Rattle.wf_top.proofs.Talking.{served_unread}
use Rattle.wf_top.proofs.serve.serve_words.Goals as goal

pub returns-clause-status : goal.returns-clause-status
returns-clause-status g c = served_le _ _ _ _ _ _ _ _ _ _ _ c.obey.ensures.served

pub returns-clause-said : goal.returns-clause-said
returns-clause-said g c = served_told _ _ _ _ _ _ _ _ _ _ _ _ _ c.obey.ensures.served c.obey.ensures.only

pub returns-clause-two : goal.returns-clause-two
returns-clause-two g c = served_two _ _ _ _ _ _ _ _ _ _ _ c.obey.ensures.served

pub returns-clause-misused : goal.returns-clause-misused
returns-clause-misused g c = served_misused _ _ _ _ _ _ _ _ _ _ _ c.obey.ensures.served

pub returns-clause-three : goal.returns-clause-three
returns-clause-three g c = served_three _ _ _ _ _ _ _ _ _ _ _ c.obey.ensures.served

pub returns-clause-unread : goal.returns-clause-unread
returns-clause-unread g c = served_unread _ _ _ _ _ _ _ _ _ _ _ c.obey.ensures.served

pub returns-clause-word : goal.returns-clause-word
returns-clause-word g c = λ name failed. failed_word _ _ _ _ _ failed

pub returns-clause-source_faults : goal.returns-clause-source_faults
returns-clause-source_faults g c = served_faults _ _ _ _ _ _ _ _ _ _ _ c.obey.ensures.served

pub returns-clause-source_left : goal.returns-clause-source_left
returns-clause-source_left g c = served_left _ _ _ _ _ _ _ _ _ _ _ c.obey.ensures.served

pub returns-clause-source_failed : goal.returns-clause-source_failed
returns-clause-source_failed g c = served_failed _ _ _ _ _ _ _ _ _ _ _ c.obey.ensures.served

pub returns-clause-open : goal.returns-clause-open
returns-clause-open g c = served_nine _ _ _ _ _ _ _ _ _ _ _ c.obey.ensures.served

pub returns-clause-checked : goal.returns-clause-checked
returns-clause-checked g c = λ names zero.
    serves_checked _ _ _ _ _ _ _ (apart _ _ _ _ _ _ _ _ _ _ _ c.obey.ensures.served Check (λ is. cc) names) names zero

pub returns-clause-ran : goal.returns-clause-ran
returns-clause-ran g c = λ command makes names zero.
    serves_ran _ _ _ _ _ _ _ command makes
    (apart _ _ _ _ _ _ _ _ _ _ _ c.obey.ensures.served command (makes_no_talk command makes) names) names zero

pub returns-clause-resubmitted : goal.returns-clause-resubmitted
returns-clause-resubmitted g c = λ command again names zero.
    serves_again _ _ _ _ _ _ _ command again
    (apart _ _ _ _ _ _ _ _ _ _ _ c.obey.ensures.served command (again_no_talk command again) names) names zero

pub returns-clause-fired : goal.returns-clause-fired
returns-clause-fired g c = λ from count names zero.
    serves_fired _ _ _ _ _ _ _ from count names
    (apart _ _ _ _ _ _ _ _ _ _ _ c.obey.ensures.served (Fires from count) (λ is. cc) names) zero

pub returns-clause-drilled : goal.returns-clause-drilled
returns-clause-drilled g c = λ n names zero.
    serves_drilled _ _ _ _ _ _ _ n names
    (apart _ _ _ _ _ _ _ _ _ _ _ c.obey.ensures.served (Drill n) (λ is. cc) names) zero

pub returns-clause-listed : goal.returns-clause-listed
returns-clause-listed g c = λ names zero.
    serves_listed _ _ _ _ _ _ _ (apart _ _ _ _ _ _ _ _ _ _ _ c.obey.ensures.served Command.List (λ is. cc) names) names zero

pub returns-clause-conversed : goal.returns-clause-conversed
returns-clause-conversed g c = served_none _ _ _ _ _ _ _ _ _ _ _ c.obey.ensures.served

pub returns-clause-complete_again : goal.returns-clause-complete_again
returns-clause-complete_again g c =
    serves_remade c.one_reason_against_a_resubmission.ensures.nothing _ _ _ _ _ _ _ _ _
    (served_told _ _ _ _ _ _ _ _ _ _ _ _ _ c.obey.ensures.served c.obey.ensures.only)

pub returns-clause-complete_check : goal.returns-clause-complete_check
returns-clause-complete_check g c =
    serves_accepted _ _ _ _ _ _ _ _ _ (served_told _ _ _ _ _ _ _ _ _ _ _ _ _ c.obey.ensures.served c.obey.ensures.only)

pub returns-clause-complete : goal.returns-clause-complete
returns-clause-complete g c =
    serves_whole _ _ _ _ _ _ _ _ _ (served_told _ _ _ _ _ _ _ _ _ _ _ _ _ c.obey.ensures.served c.obey.ensures.only)

pub returns-clause-complete_list : goal.returns-clause-complete_list
returns-clause-complete_list g c =
    serves_list _ _ _ _ _ _ _ _ _ (served_told _ _ _ _ _ _ _ _ _ _ _ _ _ c.obey.ensures.served c.obey.ensures.only)

pub returns-clause-complete_fires : goal.returns-clause-complete_fires
returns-clause-complete_fires g c =
    serves_moments _ _ _ _ _ _ _ _ _ (served_told _ _ _ _ _ _ _ _ _ _ _ _ _ c.obey.ensures.served c.obey.ensures.only)

pub returns-clause-complete_drill : goal.returns-clause-complete_drill
returns-clause-complete_drill g c =
    serves_drill _ _ _ _ _ _ _ _ _ (served_told _ _ _ _ _ _ _ _ _ _ _ _ _ c.obey.ensures.served c.obey.ensures.only)

pub returns-clause-complete_session : goal.returns-clause-complete_session
returns-clause-complete_session g c = talked_whole _ _ _ _ _ _ _ _ _ _ _ c.obey.ensures.served

pub returns-clause-opened_nothing : goal.returns-clause-opened_nothing
returns-clause-opened_nothing g c =
    told_of_none _ _ _ _ _ _ _ _ _ (served_told _ _ _ _ _ _ _ _ _ _ _ _ _ c.obey.ensures.served c.obey.ensures.only)

pub returns-clause-many : goal.returns-clause-many
returns-clause-many g c =
    told_of_several _ _ _ _ _ _ _ _ _ (served_told _ _ _ _ _ _ _ _ _ _ _ _ _ c.obey.ensures.served c.obey.ensures.only)

pub returns-clause-refused_definition : goal.returns-clause-refused_definition
returns-clause-refused_definition g c = served_definition _ _ _ _ _ _ _ _ _ _ _ c.obey.ensures.served

pub returns-clause-refused_inputs : goal.returns-clause-refused_inputs
returns-clause-refused_inputs g c = served_inputs _ _ _ _ _ _ _ _ _ _ _ c.obey.ensures.served

pub returns-clause-refused_history : goal.returns-clause-refused_history
returns-clause-refused_history g c = served_history _ _ _ _ _ _ _ _ _ _ _ c.obey.ensures.served

pub returns-clause-too_large : goal.returns-clause-too_large
returns-clause-too_large g c = served_cost _ _ _ _ _ _ _ _ _ _ _ c.obey.ensures.served
