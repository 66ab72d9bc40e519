-- The uses of a site by what they name, as contracts see them.
use Rattle.std.specs.Prelude.{ℕ, Bool, List, [], ◌∷◌}
use Rattle.std.specs.BTreeSet.{insert_key}
use Rattle.std.specs.List.{list_any}
use Rattle.wf_val.specs.NameOrder.{bytes_cmp}
use Rattle.wf_eval_expr.specs.Uses.{Use}
use Rattle.wf_uses.specs.Named.{asks_for, names_by}
use Rattle.wf_uses.specs.declared.named.Named.{Named}
use Rattle.wf_uses.specs.declared.named.Asked.{Asked}

-- names in byte order, each once
abbrev pub ordered : List (List ℕ) → List (List ℕ)
ordered [] = []
ordered (k ∷ ks) = insert_key bytes_cmp (ordered ks) k

-- each list is in byte order, each name once
pub record UsesTree : Type 0 where
  -- the actions of `actions`, `outputs` and `body`, and those of `result`
  pub names : List (List ℕ)
  pub results : List (List ℕ)
  -- the variables of `variables`, and those that the action initialises or writes
  pub reads : List (List ℕ)
  pub writes : List (List ℕ)
  pub parameters : List (List ℕ)
  -- the loops of `items`, and those of `iterationIndexes`
  pub items : List (List ℕ)
  pub indexes : List (List ℕ)
  -- whether there is a call of `item`, of `action`, of `guid` or `rand`, of `utcNow` or its two sisters, of `workflow`
  pub item : Bool
  pub own : Bool
  pub words : Bool
  pub moment : Bool
  pub run : Bool

-- the uses of a site that writes these variables
abbrev pub uses_tree : List (List ℕ) → List Use → UsesTree
uses_tree writes us = record {
  names = ordered (names_by Named.Row us);
  results = ordered (names_by Named.Result us);
  reads = ordered (names_by Named.Variable us);
  writes = ordered writes;
  parameters = ordered (names_by Named.Parameter us);
  items = ordered (names_by Named.Item us);
  indexes = ordered (names_by Named.Index us);
  item = list_any (asks_for Asked.Item) us;
  own = list_any (asks_for Asked.Own) us;
  words = list_any (asks_for Asked.Words) us;
  moment = list_any (asks_for Asked.Moment) us;
  run = list_any (asks_for Asked.Run) us;
}
