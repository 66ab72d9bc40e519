-- Parts of a URL (URL Standard; Workflow Definition Language, URI parsing functions).
use Rattle.std.specs.Prelude.{ℕ, ℤ, pos, negsuc, List, [], ◌∷◌, ◌++◌, Option, Some, None, option_map, Err}
use Rattle.std.specs.Option.{option_or, unwrap_or}
use Rattle.std.specs.Result.{result_ok}
use Rattle.url.specs.Parts.{Parts, nonempty_host}
use Rattle.url.specs.Host.{host_text}
use Rattle.url.specs.Scheme.{default_port}
use Rattle.url.specs.Parser.{parse_url}
use Rattle.wf_val.specs.Arguments.{Answer, given, text_at, bounded}
use Rattle.wf_val.specs.ValueTree.{ValueTree, number, text}
use Rattle.wf_val.specs.declared.fault.EvalFault.{EvalFault}
use Rattle.wf_val.specs.declared.function.Fun.{Fun}

-- the URL that a text is, where it is one
abbrev pub url_of : List ℕ → Option Parts
url_of s = result_ok (parse_url None s)

abbrev pub part_or_bad : Fun → (Parts → ValueTree) → Option Parts → Answer
part_or_bad f part (Some u) = bounded (part u)
part_or_bad f part None = Err (EvalFault.BadText f)

-- a part of the URL that a text is
abbrev pub of_url : Fun → (Parts → ValueTree) → List ValueTree → Answer
of_url f part ts = given (text_at f ts 0) (λ s. part_or_bad f part (url_of s))

-- the scheme, without its colon
abbrev pub scheme_of : Parts → ValueTree
scheme_of u = text u.scheme

-- the host as the URL writes it, empty where there is none
abbrev pub host_of : Parts → ValueTree
host_of u = text (unwrap_or (option_map host_text (nonempty_host u)) [])

-- the path, which may be opaque
abbrev pub path_of : Parts → ValueTree
path_of u = text u.path

-- a query with its `?`, empty where there is none
abbrev pub marked : Option (List ℕ) → List ℕ
marked (Some q) = 63 ∷ q
marked None = []

abbrev pub query_of : Parts → ValueTree
query_of u = text (marked u.query)

abbrev pub path_and_query_of : Parts → ValueTree
path_and_query_of u = text (u.path ++ marked u.query)

abbrev pub port_or_absent : Option ℕ → ℤ
port_or_absent (Some p) = pos p
port_or_absent None = negsuc 0

-- the port, by default that of the scheme, else -1
abbrev pub port_of : Parts → ValueTree
port_of u = number (port_or_absent (option_or u.port (default_port u.scheme)))
