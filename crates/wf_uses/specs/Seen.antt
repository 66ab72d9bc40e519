-- What is found and what is kept of it, as contracts see them.
use Rattle.std.specs.Prelude.{List, map}
use Rattle.wf_eval_expr.specs.Uses.{Use, names, asks, asks_moment, asks_words}
use Rattle.wf_uses.specs.UsesTree.{UsesTree}
use Rattle.wf_uses.specs.declared.found.Found.{Found}
use Rattle.wf_uses.specs.declared.uses.Uses.{Uses}

abbrev pub found_use : Found → Use
found_use (Found.Name f n) = names f n.now
found_use (Found.Told f) = asks f
found_use Found.Moment = asks_moment
found_use Found.Word = asks_words

abbrev pub found_uses : List Found → List Use
found_uses us = map found_use us

-- the names and answers of a `Uses`
abbrev pub uses_seen : Uses → UsesTree
uses_seen u = record {
  names = u.names;
  results = u.results;
  reads = u.reads;
  writes = u.writes;
  parameters = u.parameters;
  items = u.items;
  indexes = u.indexes;
  item = u.item;
  own = u.own;
  words = u.words;
  moment = u.moment;
  run = u.run;
}
