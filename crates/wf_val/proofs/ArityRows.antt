-- How many arguments each function takes, the other way round: for each number, the functions that take so many.
use Rattle.std.proofs.Common.{◌≡◌, ℕ, List, [], ◌∷◌, refl}
use Rattle.std.specs.List.{filter, list_any}
use Rattle.std.specs.Prelude.{not}
use Rattle.wf_val.specs.Arity.{takes}
use Rattle.wf_val.specs.Function.{functions}
use Rattle.wf_val.specs.declared.function.Fun.{Fun}

takes-none : filter (λ f. takes f 0) functions ≡
    Fun.CreateArray ∷ Fun.Action ∷ Fun.Item ∷ Fun.Trigger ∷ Fun.TriggerOutputs ∷ Fun.TriggerBody ∷ Fun.Workflow ∷
    Fun.UtcNow ∷ Fun.Guid ∷ []
takes-none = refl

takes-one : filter (λ f. takes f 1) functions ≡
    Fun.Concat ∷ Fun.ToLower ∷ Fun.ToUpper ∷ Fun.Trim ∷ Fun.Length ∷ Fun.Empty ∷ Fun.First ∷ Fun.Last ∷
    Fun.CreateArray ∷ Fun.Array ∷ Fun.Sort ∷ Fun.Reverse ∷ Fun.Min ∷ Fun.Max ∷ Fun.Not ∷ Fun.Int ∷ Fun.Bool ∷
    Fun.IsInt ∷ Fun.FormatDateTime ∷ Fun.StartOfDay ∷ Fun.StartOfHour ∷ Fun.StartOfMonth ∷ Fun.DayOfMonth ∷
    Fun.DayOfYear ∷ Fun.DayOfWeek ∷ Fun.Ticks ∷ Fun.UriComponent ∷ Fun.EncodeUriComponent ∷ Fun.UriComponentToString ∷
    Fun.DecodeUriComponent ∷ Fun.UriScheme ∷ Fun.UriHost ∷ Fun.UriPath ∷ Fun.UriQuery ∷ Fun.UriPathAndQuery ∷
    Fun.UriPort ∷ Fun.Base64 ∷ Fun.Base64ToString ∷ Fun.DecodeBase64 ∷ Fun.DataUri ∷ Fun.DataUriToString ∷ Fun.And ∷
    Fun.Or ∷ Fun.Coalesce ∷ Fun.String ∷ Fun.Json ∷ Fun.Actions ∷ Fun.Outputs ∷ Fun.Body ∷ Fun.Result ∷ Fun.Items ∷
    Fun.IterationIndexes ∷ Fun.Parameters ∷ Fun.Variables ∷ Fun.UtcNow ∷ Fun.Guid ∷ []
takes-one = refl

takes-two : filter (λ f. takes f 2) functions ≡
    Fun.Concat ∷ Fun.Substring ∷ Fun.Split ∷ Fun.StartsWith ∷ Fun.EndsWith ∷ Fun.IndexOf ∷ Fun.LastIndexOf ∷
    Fun.Slice ∷ Fun.Contains ∷ Fun.Take ∷ Fun.Skip ∷ Fun.Join ∷ Fun.Union ∷ Fun.Intersection ∷ Fun.CreateArray ∷
    Fun.Range ∷ Fun.Chunk ∷ Fun.Sort ∷ Fun.RemoveProperty ∷ Fun.Add ∷ Fun.Sub ∷ Fun.Mul ∷ Fun.Div ∷ Fun.Mod ∷
    Fun.Min ∷ Fun.Max ∷ Fun.Equals ∷ Fun.Greater ∷ Fun.GreaterOrEquals ∷ Fun.Less ∷ Fun.LessOrEquals ∷ Fun.AddDays ∷
    Fun.AddHours ∷ Fun.AddMinutes ∷ Fun.AddSeconds ∷ Fun.FormatDateTime ∷ Fun.StartOfDay ∷ Fun.StartOfHour ∷
    Fun.StartOfMonth ∷ Fun.DateDifference ∷ Fun.And ∷ Fun.Or ∷ Fun.Coalesce ∷ Fun.GetFutureTime ∷ Fun.GetPastTime ∷
    Fun.Rand ∷ []
takes-two = refl

takes-three : filter (λ f. takes f 3) functions ≡
    Fun.Concat ∷ Fun.Substring ∷ Fun.Replace ∷ Fun.Slice ∷ Fun.Union ∷ Fun.Intersection ∷ Fun.CreateArray ∷
    Fun.AddProperty ∷ Fun.SetProperty ∷ Fun.Min ∷ Fun.Max ∷ Fun.AddDays ∷ Fun.AddHours ∷ Fun.AddMinutes ∷
    Fun.AddSeconds ∷ Fun.AddToTime ∷ Fun.SubtractFromTime ∷ Fun.If ∷ Fun.And ∷ Fun.Or ∷ Fun.Coalesce ∷
    Fun.GetFutureTime ∷ Fun.GetPastTime ∷ []
takes-three = refl

takes-four : filter (λ f. takes f 4) functions ≡
    Fun.Concat ∷ Fun.Union ∷ Fun.Intersection ∷ Fun.CreateArray ∷ Fun.Min ∷ Fun.Max ∷ Fun.AddToTime ∷
    Fun.SubtractFromTime ∷ Fun.And ∷ Fun.Or ∷ Fun.Coalesce ∷ []
takes-four = refl

takes-five : filter (λ f. takes f 5) functions ≡
    Fun.Concat ∷ Fun.Union ∷ Fun.Intersection ∷ Fun.CreateArray ∷ Fun.Min ∷ Fun.Max ∷ Fun.And ∷ Fun.Or ∷
    Fun.Coalesce ∷ []
takes-five = refl

-- the numbers of arguments that tell functions apart: one that takes five takes any more
abbrev counts : List ℕ
counts = 0 ∷ 1 ∷ 2 ∷ 3 ∷ 4 ∷ 5 ∷ []

-- there is no function that no call may have, and none takes so many and so many more but no number between
all-take_some : filter (λ f. not (list_any (takes f) counts)) functions ≡ []
all-take_some = refl

-- what no expression can call takes none, not even none at all
abbrev parts : List Fun
parts = Fun.Condition ∷ Fun.Index ∷ Fun.From ∷ Fun.JoinWith ∷ Fun.Foreach ∷ Fun.Switch ∷ Fun.Query ∷ Fun.ParseJson ∷ Fun.Variable ∷ Fun.Terminate ∷ []

parts-take_none : filter (λ f. takes f 0) parts ≡ []
parts-take_none = refl

parts-take_one : filter (λ f. takes f 1) parts ≡ []
parts-take_one = refl
