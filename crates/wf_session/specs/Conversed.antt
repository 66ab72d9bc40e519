-- How a talk went, by what a source and a sink tell before it and behind it.
use Rattle.std.specs.Prelude.{◌≡◌, ◌<◌, ◌⊎◌, ℕ, List, Option}
use Rattle.wf_outside.specs.Outside.{Rose}
use Rattle.wf_answers.specs.Inputs.{InputsTree}
use Rattle.wf_def.specs.DefTree.{DefTree}
use Rattle.wf_stands.specs.Stands.{Stands}
use Rattle.wf_talk.specs.Talks.{Talks}
use Rattle.wf_trigger.specs.Starts.{StartTree}

-- what is left of a source and what a sink has taken, and how many of their calls have failed
pub record Around : Type 0 where
  pub left : Option (List ℕ)
  pub unread : ℕ
  pub taken : Option (List ℕ)
  pub unwritten : ℕ

-- It was the talk of this run, and what failed is told by the status.
pub record HasConversed (d : DefTree) (start : StartTree) (inputs : InputsTree) (before after : Around) (result : ℕ) : Type 0 where
  pub talks : Talks (Stands d start) inputs before.left after.left before.taken after.taken result
  pub only : result ≡ 4 → Rose before.unwritten after.unwritten
  pub always : before.unwritten < after.unwritten → result ≡ 4
  pub three : result ≡ 3 → Rose before.unread after.unread
  pub source : before.unread < after.unread → (result ≡ 3) ⊎ (result ≡ 4) ⊎ (result ≡ 5)
