-- The functions of the expression language by how long their names are (Workflow Definition Language, reference of the functions in
-- expressions).
use Rattle.std.specs.Prelude.{ℕ, List, [], ◌∷◌, nat_eq, if◌then◌else◌}
use Rattle.wf_val.specs.declared.function.Fun.{Fun}

-- those whose names have so many characters, the ones that are called most first
abbrev pub of_length : ℕ → List Fun
of_length n =
    if nat_eq n 2 then Fun.If ∷ Fun.Or ∷ []
    else if nat_eq n 3 then Fun.Add ∷ Fun.Sub ∷ Fun.Mul ∷ Fun.Div ∷ Fun.Mod ∷ Fun.Min ∷ Fun.Max ∷ Fun.Not ∷ Fun.Int ∷ Fun.And ∷ []
    else if nat_eq n 4 then
    Fun.Body ∷ Fun.Item ∷ Fun.Json ∷ Fun.Last ∷ Fun.Less ∷ Fun.Sort ∷ Fun.Take ∷ Fun.Skip ∷ Fun.Join ∷ Fun.Trim ∷ Fun.Bool ∷
    Fun.Guid ∷ Fun.Rand ∷ []
    else if nat_eq n 5 then
    Fun.Items ∷ Fun.First ∷ Fun.Empty ∷ Fun.Split ∷ Fun.Range ∷ Fun.Array ∷ Fun.Union ∷ Fun.Slice ∷ Fun.Chunk ∷ Fun.IsInt ∷
    Fun.Ticks ∷ []
    else if nat_eq n 6 then Fun.String ∷ Fun.Concat ∷ Fun.Equals ∷ Fun.Length ∷ Fun.Result ∷ Fun.Action ∷ Fun.UtcNow ∷ Fun.Base64 ∷ []
    else if nat_eq n 7 then
    Fun.Outputs ∷ Fun.Actions ∷ Fun.Trigger ∷ Fun.ToLower ∷ Fun.ToUpper ∷ Fun.Replace ∷ Fun.IndexOf ∷ Fun.Greater ∷ Fun.Reverse ∷
    Fun.AddDays ∷ Fun.UriHost ∷ Fun.UriPath ∷ Fun.UriPort ∷ Fun.DataUri ∷ []
    else if nat_eq n 8 then Fun.Coalesce ∷ Fun.Contains ∷ Fun.Workflow ∷ Fun.EndsWith ∷ Fun.AddHours ∷ Fun.UriQuery ∷ []
    else if nat_eq n 9 then Fun.Variables ∷ Fun.Substring ∷ Fun.AddToTime ∷ Fun.DayOfYear ∷ Fun.DayOfWeek ∷ Fun.UriScheme ∷ []
    else if nat_eq n 10 then Fun.Parameters ∷ Fun.StartsWith ∷ Fun.AddMinutes ∷ Fun.AddSeconds ∷ Fun.StartOfDay ∷ Fun.DayOfMonth ∷ []
    else if nat_eq n 11 then
    Fun.TriggerBody ∷ Fun.CreateArray ∷ Fun.LastIndexOf ∷ Fun.AddProperty ∷ Fun.SetProperty ∷ Fun.StartOfHour ∷ Fun.GetPastTime ∷ []
    else if nat_eq n 12 then Fun.Intersection ∷ Fun.LessOrEquals ∷ Fun.StartOfMonth ∷ Fun.UriComponent ∷ Fun.DecodeBase64 ∷ []
    else if nat_eq n 13 then Fun.GetFutureTime ∷ []
    else if nat_eq n 14 then Fun.FormatDateTime ∷ Fun.TriggerOutputs ∷ Fun.RemoveProperty ∷ Fun.DateDifference ∷ Fun.Base64ToString ∷ []
    else if nat_eq n 15 then Fun.GreaterOrEquals ∷ Fun.UriPathAndQuery ∷ Fun.DataUriToString ∷ []
    else if nat_eq n 16 then Fun.IterationIndexes ∷ Fun.SubtractFromTime ∷ []
    else if nat_eq n 18 then Fun.EncodeUriComponent ∷ Fun.DecodeUriComponent ∷ []
    else if nat_eq n 20 then Fun.UriComponentToString ∷ []
    else []
