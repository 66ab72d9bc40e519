-- Rows of the functions uriScheme, uriHost, uriPath, uriQuery, uriPathAndQuery and uriPort.
use Rattle.url.proofs.OnLiterals.{url_on_literals}
use Rattle.std.proofs.Common.{◌≡◌, refl, [], ◌∷◌, Ok, Err}
use Rattle.wf_fn_uri.specs.Parts.{of_url, scheme_of, host_of, path_of, query_of, path_and_query_of, port_of}
use Rattle.wf_val.proofs.RowValues.{plus, minus, word}
use Rattle.wf_val.specs.ValueTree.{null}
use Rattle.wf_val.specs.declared.fault.EvalFault.{EvalFault}
use Rattle.wf_val.specs.declared.function.Fun.{Fun}

-- each part of one URL, and the faults of each
uri_scheme-example : of_url Fun.UriScheme scheme_of (word "https://www.localhost.com:8080/catalog/shownew.htm?date=today" ∷ [])
    ≡ Ok (word "https")
unfolding url_on_literals
uri_scheme-example = refl

uri_scheme-no_url : of_url Fun.UriScheme scheme_of (word "no url" ∷ []) ≡ Err (EvalFault.BadText Fun.UriScheme)
unfolding url_on_literals
uri_scheme-no_url = refl

uri_scheme-null : of_url Fun.UriScheme scheme_of (null ∷ []) ≡ Err (EvalFault.WrongType Fun.UriScheme 1)
uri_scheme-null = refl

uri_host-example : of_url Fun.UriHost host_of (word "https://www.localhost.com:8080/catalog/shownew.htm?date=today" ∷ [])
    ≡ Ok (word "www.localhost.com")
unfolding url_on_literals
uri_host-example = refl

uri_host-no_url : of_url Fun.UriHost host_of (word "no url" ∷ []) ≡ Err (EvalFault.BadText Fun.UriHost)
unfolding url_on_literals
uri_host-no_url = refl

uri_host-null : of_url Fun.UriHost host_of (null ∷ []) ≡ Err (EvalFault.WrongType Fun.UriHost 1)
uri_host-null = refl

uri_path-example : of_url Fun.UriPath path_of (word "https://www.localhost.com:8080/catalog/shownew.htm?date=today" ∷ [])
    ≡ Ok (word "/catalog/shownew.htm")
unfolding url_on_literals
uri_path-example = refl

uri_path-no_url : of_url Fun.UriPath path_of (word "no url" ∷ []) ≡ Err (EvalFault.BadText Fun.UriPath)
unfolding url_on_literals
uri_path-no_url = refl

uri_path-null : of_url Fun.UriPath path_of (null ∷ []) ≡ Err (EvalFault.WrongType Fun.UriPath 1)
uri_path-null = refl

uri_query-example : of_url Fun.UriQuery query_of (word "https://www.localhost.com:8080/catalog/shownew.htm?date=today" ∷ [])
    ≡ Ok (word "?date=today")
unfolding url_on_literals
uri_query-example = refl

uri_query-no_url : of_url Fun.UriQuery query_of (word "no url" ∷ []) ≡ Err (EvalFault.BadText Fun.UriQuery)
unfolding url_on_literals
uri_query-no_url = refl

uri_query-null : of_url Fun.UriQuery query_of (null ∷ []) ≡ Err (EvalFault.WrongType Fun.UriQuery 1)
uri_query-null = refl

uri_path_and_query-example : of_url Fun.UriPathAndQuery path_and_query_of
    (word "https://www.localhost.com:8080/catalog/shownew.htm?date=today" ∷ []) ≡ Ok (word "/catalog/shownew.htm?date=today")
unfolding url_on_literals
uri_path_and_query-example = refl

uri_path_and_query-no_url : of_url Fun.UriPathAndQuery path_and_query_of (word "no url" ∷ []) ≡ Err (EvalFault.BadText Fun.UriPathAndQuery)
unfolding url_on_literals
uri_path_and_query-no_url = refl

uri_path_and_query-null : of_url Fun.UriPathAndQuery path_and_query_of (null ∷ []) ≡ Err (EvalFault.WrongType Fun.UriPathAndQuery 1)
uri_path_and_query-null = refl

uri_port-example : of_url Fun.UriPort port_of (word "https://www.localhost.com:8080/catalog/shownew.htm?date=today" ∷ []) ≡ Ok (plus 8080)
unfolding url_on_literals
uri_port-example = refl

uri_port-no_url : of_url Fun.UriPort port_of (word "no url" ∷ []) ≡ Err (EvalFault.BadText Fun.UriPort)
unfolding url_on_literals
uri_port-no_url = refl

uri_port-null : of_url Fun.UriPort port_of (null ∷ []) ≡ Err (EvalFault.WrongType Fun.UriPort 1)
uri_port-null = refl

-- schemes
uri_scheme-upper : of_url Fun.UriScheme scheme_of (word "HTTP://a.b/" ∷ []) ≡ Ok (word "http")
unfolding url_on_literals
uri_scheme-upper = refl

uri_scheme-other : of_url Fun.UriScheme scheme_of (word "x-y+z.1:w" ∷ []) ≡ Ok (word "x-y+z.1")
unfolding url_on_literals
uri_scheme-other = refl

uri_scheme-empty : of_url Fun.UriScheme scheme_of (word "" ∷ []) ≡ Err (EvalFault.BadText Fun.UriScheme)
unfolding url_on_literals
uri_scheme-empty = refl

uri_scheme-relative : of_url Fun.UriScheme scheme_of (word "/a/b" ∷ []) ≡ Err (EvalFault.BadText Fun.UriScheme)
unfolding url_on_literals
uri_scheme-relative = refl

-- hosts
uri_host-upper : of_url Fun.UriHost host_of (word "http://EX.com/" ∷ []) ≡ Ok (word "ex.com")
unfolding url_on_literals
uri_host-upper = refl

uri_host-ipv4 : of_url Fun.UriHost host_of (word "http://0x7f.1/" ∷ []) ≡ Ok (word "127.0.0.1")
unfolding url_on_literals
uri_host-ipv4 = refl

uri_host-ipv6 : of_url Fun.UriHost host_of (word "http://[0:0::1]:80/" ∷ []) ≡ Ok (word "[::1]")
unfolding url_on_literals
uri_host-ipv6 = refl

uri_host-none : of_url Fun.UriHost host_of (word "mailto:a@b" ∷ []) ≡ Ok (word "")
unfolding url_on_literals
uri_host-none = refl

uri_host-file : of_url Fun.UriHost host_of (word "file:///a" ∷ []) ≡ Ok (word "")
unfolding url_on_literals
uri_host-file = refl

uri_host-user : of_url Fun.UriHost host_of (word "http://u:p@h/" ∷ []) ≡ Ok (word "h")
unfolding url_on_literals
uri_host-user = refl

uri_host-missing : of_url Fun.UriHost host_of (word "http://" ∷ []) ≡ Err (EvalFault.BadText Fun.UriHost)
unfolding url_on_literals
uri_host-missing = refl

-- paths and queries
uri_path-none : of_url Fun.UriPath path_of (word "http://a" ∷ []) ≡ Ok (word "/")
unfolding url_on_literals
uri_path-none = refl

uri_path-opaque : of_url Fun.UriPath path_of (word "mailto:a@b" ∷ []) ≡ Ok (word "a@b")
unfolding url_on_literals
uri_path-opaque = refl

uri_path-dots : of_url Fun.UriPath path_of (word "http://a/x/../y z" ∷ []) ≡ Ok (word "/y%20z")
unfolding url_on_literals
uri_path-dots = refl

uri_query-none : of_url Fun.UriQuery query_of (word "http://a/b" ∷ []) ≡ Ok (word "")
unfolding url_on_literals
uri_query-none = refl

uri_query-empty : of_url Fun.UriQuery query_of (word "http://a/b?" ∷ []) ≡ Ok (word "?")
unfolding url_on_literals
uri_query-empty = refl

uri_query-before_fragment : of_url Fun.UriQuery query_of (word "http://a/?q=1#?f" ∷ []) ≡ Ok (word "?q=1")
unfolding url_on_literals
uri_query-before_fragment = refl

uri_path_and_query-none : of_url Fun.UriPathAndQuery path_and_query_of (word "http://a" ∷ []) ≡ Ok (word "/")
unfolding url_on_literals
uri_path_and_query-none = refl

uri_path_and_query-empty : of_url Fun.UriPathAndQuery path_and_query_of (word "http://a/?" ∷ []) ≡ Ok (word "/?")
unfolding url_on_literals
uri_path_and_query-empty = refl

-- ports
uri_port-http : of_url Fun.UriPort port_of (word "http://h/" ∷ []) ≡ Ok (plus 80)
unfolding url_on_literals
uri_port-http = refl

uri_port-https : of_url Fun.UriPort port_of (word "https://h/" ∷ []) ≡ Ok (plus 443)
unfolding url_on_literals
uri_port-https = refl

uri_port-ws : of_url Fun.UriPort port_of (word "ws://h/" ∷ []) ≡ Ok (plus 80)
unfolding url_on_literals
uri_port-ws = refl

uri_port-wss : of_url Fun.UriPort port_of (word "wss://h/" ∷ []) ≡ Ok (plus 443)
unfolding url_on_literals
uri_port-wss = refl

uri_port-ftp : of_url Fun.UriPort port_of (word "ftp://h/" ∷ []) ≡ Ok (plus 21)
unfolding url_on_literals
uri_port-ftp = refl

uri_port-file : of_url Fun.UriPort port_of (word "file:///a" ∷ []) ≡ Ok (minus 1)
unfolding url_on_literals
uri_port-file = refl

uri_port-other : of_url Fun.UriPort port_of (word "x://h/" ∷ []) ≡ Ok (minus 1)
unfolding url_on_literals
uri_port-other = refl

uri_port-other_given : of_url Fun.UriPort port_of (word "x://h:7/" ∷ []) ≡ Ok (plus 7)
unfolding url_on_literals
uri_port-other_given = refl

uri_port-default_given : of_url Fun.UriPort port_of (word "http://h:80/" ∷ []) ≡ Ok (plus 80)
unfolding url_on_literals
uri_port-default_given = refl

uri_port-zero : of_url Fun.UriPort port_of (word "http://h:0/" ∷ []) ≡ Ok (plus 0)
unfolding url_on_literals
uri_port-zero = refl

uri_port-greatest : of_url Fun.UriPort port_of (word "http://h:65535/" ∷ []) ≡ Ok (plus 65535)
unfolding url_on_literals
uri_port-greatest = refl

uri_port-past : of_url Fun.UriPort port_of (word "http://h:65536/" ∷ []) ≡ Err (EvalFault.BadText Fun.UriPort)
unfolding url_on_literals
uri_port-past = refl

uri_port-empty : of_url Fun.UriPort port_of (word "http://h:/" ∷ []) ≡ Ok (plus 80)
unfolding url_on_literals
uri_port-empty = refl

uri_port-letters : of_url Fun.UriPort port_of (word "http://h:a/" ∷ []) ≡ Err (EvalFault.BadText Fun.UriPort)
unfolding url_on_literals
uri_port-letters = refl
