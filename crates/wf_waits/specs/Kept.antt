-- Attempts that wait for their answers, as they are kept: in the order of their keys, each once.
use Rattle.std.specs.Prelude.{◌≡◌, ◌⊎◌, Bool, true, List, [], Option, Some, None, map}
use Rattle.wf_lists.specs.KeyOrder.{find_key, put_key, without_key}
use Rattle.wf_answers.specs.AnswerTree.{Key, key_cmp}
use Rattle.wf_talk.specs.Keys.{fresh, is_among}
use Rattle.wf_talk.specs.Seen.{want_key}
use Rattle.wf_waits.specs.declared.waiting.Fresh.{Fresh}
use Rattle.wf_waits.specs.declared.waiting.Waiting.{Waiting}

abbrev pub waiting_key : Waiting → Key
waiting_key w = want_key w.want

abbrev pub fresh_key : Fresh → Key
fresh_key f = want_key f.want

abbrev pub keys_of : List Waiting → List Key
keys_of waits = map waiting_key waits

-- those that wait, and those of them that are new
abbrev pub Kept : Type 0
Kept = List Waiting × List Fresh

-- An attempt begins to wait: it is kept, and it is new, unless one is kept under its key.
abbrev pub kept_over : Option Waiting → Waiting → Kept → Kept
kept_over None w kept = (put_key key_cmp waiting_key w kept.0, put_key key_cmp fresh_key (record { want = w.want }) kept.1)
kept_over (Some other) w kept = kept

abbrev pub kept_with : Waiting → Kept → Kept
kept_with w kept = kept_over (find_key key_cmp waiting_key (waiting_key w) kept.0) w kept

-- The answer of one comes: it waits no more, and none of the others is new.
abbrev pub kept_without : Key → Kept → Kept
kept_without k kept = (without_key key_cmp waiting_key k kept.0, [])

-- WHICH OF THEM ARE NEW: those whose keys weren't among the earlier ones. What was among these is kept still, or has its answer.
pub record AreNew (answered : Key → Bool) (earlier : List Key) (kept : Kept) : Type 0 where
  pub new_are : map fresh_key kept.1 ≡ fresh earlier (keys_of kept.0)
  pub earlier_are : (k : Key) → is_among k earlier ≡ true → (is_among k (keys_of kept.0) ≡ true) ⊎ (answered k ≡ true)
