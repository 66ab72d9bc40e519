-- The runs that start, one by one.
use Rattle.std.specs.Prelude.{ℕ, suc, List, [], ◌∷◌, ◌++◌, Bool, true, false, codes, decimal, Option, Some, None}
use Rattle.wf_val.specs.Get.{name_of}
use Rattle.wf_val.specs.NameOrder.{put_named}
use Rattle.wf_val.specs.ValueTree.{ValueTree, object, members, pairs, Member}

-- what a run starts with
pub record StartTree : Type 0 where
  pub run : List ℕ
  pub seed : List ℕ
  pub trigger : ValueTree
  pub parameters : List Member

-- what the runs share: the inputs' run name and seed, the trigger's name and what it put out, the parameters
pub record Shared : Type 0 where
  pub run : List ℕ
  pub seed : List ℕ
  pub name : ValueTree
  pub outputs : ValueTree
  pub parameters : List Member

-- a trigger as a value
abbrev pub trigger_value : ValueTree → ValueTree → ValueTree
trigger_value name outputs = object (members ((codes "name", name) ∷ (codes "outputs", outputs) ∷ []))

-- outputs with another body; outputs that are no object have only that
abbrev pub with_body : ValueTree → ValueTree → ValueTree
with_body (object ms) item = object (members (put_named name_of (codes "body", item) (pairs ms)))
with_body t item = object (members ((codes "body", item) ∷ []))

-- a name with a minus and a number behind it
abbrev pub numbered : List ℕ → ℕ → List ℕ
numbered s k = s ++ 45 ∷ decimal k

-- the run that isn't one of a split
abbrev pub start_whole : Shared → StartTree
start_whole s = record { run = s.run; seed = s.seed; trigger = trigger_value s.name s.outputs; parameters = s.parameters }

-- the run of an item, whose number is k
abbrev pub start_of_item : Shared → ℕ → ValueTree → StartTree
start_of_item s k item = record {
  run = numbered s.run k;
  seed = numbered s.seed k;
  trigger = trigger_value s.name (with_body s.outputs item);
  parameters = s.parameters;
}

-- the runs of items, numbered from k on
abbrev pub starts_from : Shared → ℕ → List ValueTree → List StartTree
starts_from s k [] = []
starts_from s k (t ∷ ts) = start_of_item s k t ∷ starts_from s (suc k) ts

-- one run, or one for each item of a split; none where a condition doesn't hold
abbrev pub starts_of : Shared → Option (List ValueTree) → Bool → List StartTree
starts_of s split false = []
starts_of s None true = start_whole s ∷ []
starts_of s (Some ts) true = starts_from s 0 ts
