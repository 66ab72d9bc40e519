-- A name is that of a function exactly where it is that of one whose name is as long.
use Rattle.std.proofs.Common.{◌≡◌, ◌∙◌, ℕ, true, false, cond, List, [], ◌∷◌, Option, Some, None, bytes_eq, find, length, refl, sym, ap}
use Rattle.std.proofs.lemmas.List.{length-map}
use Rattle.std.specs.Char.{to_ascii_lowercase}
use Rattle.std.specs.Str.{str_eq_ignore_ascii_case, str_to_ascii_lowercase}
use Rattle.std.proofs.lemmas.Slice.Eq.{bytes_eq-Decides}
use Rattle.wf_val.specs.Function.{function_name, function_of, functions}
use Rattle.wf_val.specs.declared.function.Fun.{Fun}
use Rattle.wf_calls.specs.Lengths.{of_length}

-- the first of these functions that has the name, which is in small letters
abbrev among : List Fun → List ℕ → Option Fun
among fs low = find (λ f. bytes_eq low (str_to_ascii_lowercase (function_name f))) fs

abbrev small : Fun → List ℕ
small f = str_to_ascii_lowercase (function_name f)

some-alike : {x f : Fun} → Some x ≡ Some f → x ≡ f
some-alike is = cc

-- what is found has the name
has-name : (low : List ℕ) (fs : List Fun) (f : Fun) → among fs low ≡ Some f → low ≡ small f
has-name low [] f is = absurd cc
has-name low (x ∷ xs) f is = elim (bytes_eq low (small x)) as (λ b. bytes_eq low (small x) ≡ b → cond b (Some x) (among xs low) ≡ Some f
    → low ≡ small f) [
      | true ↦ λ same this. (bytes_eq-Decides low (small x)).0 same ∙ ap small (some-alike this)
      | false ↦ λ same later. has-name low xs f later
    ] refl is

-- each function is found by its own length, and only it
alike : (f : Fun) → among (of_length (length (small f))) (small f) ≡ among functions (small f)
alike Fun.Concat = refl
alike Fun.Substring = refl
alike Fun.Replace = refl
alike Fun.Split = refl
alike Fun.ToLower = refl
alike Fun.ToUpper = refl
alike Fun.Trim = refl
alike Fun.StartsWith = refl
alike Fun.EndsWith = refl
alike Fun.IndexOf = refl
alike Fun.LastIndexOf = refl
alike Fun.Slice = refl
alike Fun.Length = refl
alike Fun.Empty = refl
alike Fun.Contains = refl
alike Fun.First = refl
alike Fun.Last = refl
alike Fun.Take = refl
alike Fun.Skip = refl
alike Fun.Join = refl
alike Fun.Union = refl
alike Fun.Intersection = refl
alike Fun.CreateArray = refl
alike Fun.Array = refl
alike Fun.Range = refl
alike Fun.Chunk = refl
alike Fun.Sort = refl
alike Fun.Reverse = refl
alike Fun.AddProperty = refl
alike Fun.SetProperty = refl
alike Fun.RemoveProperty = refl
alike Fun.Add = refl
alike Fun.Sub = refl
alike Fun.Mul = refl
alike Fun.Div = refl
alike Fun.Mod = refl
alike Fun.Min = refl
alike Fun.Max = refl
alike Fun.Equals = refl
alike Fun.Greater = refl
alike Fun.GreaterOrEquals = refl
alike Fun.Less = refl
alike Fun.LessOrEquals = refl
alike Fun.Not = refl
alike Fun.Int = refl
alike Fun.Bool = refl
alike Fun.IsInt = refl
alike Fun.AddDays = refl
alike Fun.AddHours = refl
alike Fun.AddMinutes = refl
alike Fun.AddSeconds = refl
alike Fun.AddToTime = refl
alike Fun.SubtractFromTime = refl
alike Fun.FormatDateTime = refl
alike Fun.StartOfDay = refl
alike Fun.StartOfHour = refl
alike Fun.StartOfMonth = refl
alike Fun.DayOfMonth = refl
alike Fun.DayOfYear = refl
alike Fun.DayOfWeek = refl
alike Fun.Ticks = refl
alike Fun.DateDifference = refl
alike Fun.UriComponent = refl
alike Fun.EncodeUriComponent = refl
alike Fun.UriComponentToString = refl
alike Fun.DecodeUriComponent = refl
alike Fun.UriScheme = refl
alike Fun.UriHost = refl
alike Fun.UriPath = refl
alike Fun.UriQuery = refl
alike Fun.UriPathAndQuery = refl
alike Fun.UriPort = refl
alike Fun.Base64 = refl
alike Fun.Base64ToString = refl
alike Fun.DecodeBase64 = refl
alike Fun.DataUri = refl
alike Fun.DataUriToString = refl
alike Fun.If = refl
alike Fun.And = refl
alike Fun.Or = refl
alike Fun.Coalesce = refl
alike Fun.String = refl
alike Fun.Json = refl
alike Fun.Actions = refl
alike Fun.Outputs = refl
alike Fun.Body = refl
alike Fun.Result = refl
alike Fun.Action = refl
alike Fun.Item = refl
alike Fun.Items = refl
alike Fun.IterationIndexes = refl
alike Fun.Trigger = refl
alike Fun.TriggerOutputs = refl
alike Fun.TriggerBody = refl
alike Fun.Parameters = refl
alike Fun.Variables = refl
alike Fun.Workflow = refl
alike Fun.UtcNow = refl
alike Fun.GetFutureTime = refl
alike Fun.GetPastTime = refl
alike Fun.Guid = refl
alike Fun.Rand = refl
alike Fun.Condition = refl
alike Fun.Index = refl
alike Fun.From = refl
alike Fun.JoinWith = refl
alike Fun.Foreach = refl
alike Fun.Switch = refl
alike Fun.Query = refl
alike Fun.ParseJson = refl
alike Fun.Variable = refl
alike Fun.Terminate = refl

by-length : (low : List ℕ) → among (of_length (length low)) low ≡ among functions low
by-length low = go (among (of_length (length low)) low) (among functions low) refl refl
  where
    same-as : (f : Fun) → low ≡ small f → among (of_length (length low)) low ≡ among functions low
    same-as f same = ap (λ l. among (of_length (length l)) l) same ∙ alike f ∙ ap (among functions) (sym same)

    go : (near far : Option Fun) → among (of_length (length low)) low ≡ near → among functions low ≡ far
        → among (of_length (length low)) low ≡ among functions low
    go (Some f) far found is = same-as f (has-name low (of_length (length low)) f found)
    go None (Some f) found is = same-as f (has-name low functions f is)
    go None None found is = found ∙ sym is

pub found_by_length : (name : List ℕ) → find (λ f. str_eq_ignore_ascii_case name (function_name f)) (of_length (length name)) ≡ function_of name
found_by_length name =
    ap (λ n. among (of_length n) (str_to_ascii_lowercase name)) (sym (length-map name to_ascii_lowercase))
    ∙ by-length (str_to_ascii_lowercase name)
