-- What the code knows of the whole definition, as the rules ask for it.
use Rattle.std.specs.Prelude.{ℕ, List, map, Bool, bytes_eq}
use Rattle.std.specs.List.{list_any}
use Rattle.wf_form.specs.Whole.{Whole}
use Rattle.wf_form.specs.declared.known.Known.{Known}

abbrev pub is_listed : List ℕ → List (List ℕ) → Bool
is_listed name names = list_any (bytes_eq name) names

abbrev pub whole_seen : Known → Whole
whole_seen known = record {
  actions = known.actions;
  has_too_many_variables = known.has_too_many_variables;
  repeats = λ name. is_listed name (map (λ k. k.now) known.repeated.keys);
}
