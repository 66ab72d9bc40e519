-- What was read, as contracts see it.
use Rattle.std.specs.Prelude.{option_map}
use Rattle.wf_page.specs.Judged.{Files}
use Rattle.wf_page.specs.declared.loading.Given.{Given}

abbrev pub given_tree : Given → Files
given_tree g = record {
  definition = option_map (λ bytes. bytes.items) g.definition;
  log = option_map (λ bytes. bytes.items) g.log;
  earlier = option_map (λ file. option_map (λ bytes. bytes.items) file) g.earlier;
}
