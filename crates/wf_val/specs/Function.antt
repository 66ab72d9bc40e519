-- The functions of the expression language, by their names (Workflow Definition Language, reference of the functions
-- in expressions). Ten further names stand for a part of an expression or of an action whose value is judged as an
-- argument would be: a fault names such a part as it names a function, and no expression can call it.
use Rattle.std.specs.Prelude.{ℕ, List, [], ◌∷◌, Option, find, codes}
use Rattle.std.specs.Str.{str_eq_ignore_ascii_case}
use Rattle.wf_val.specs.declared.function.Fun.{Fun}

-- the name, as faults print it
abbrev pub function_name : Fun → List ℕ
function_name Fun.Concat = codes "concat"
function_name Fun.Substring = codes "substring"
function_name Fun.Replace = codes "replace"
function_name Fun.Split = codes "split"
function_name Fun.ToLower = codes "toLower"
function_name Fun.ToUpper = codes "toUpper"
function_name Fun.Trim = codes "trim"
function_name Fun.StartsWith = codes "startsWith"
function_name Fun.EndsWith = codes "endsWith"
function_name Fun.IndexOf = codes "indexOf"
function_name Fun.LastIndexOf = codes "lastIndexOf"
function_name Fun.Slice = codes "slice"
function_name Fun.Length = codes "length"
function_name Fun.Empty = codes "empty"
function_name Fun.Contains = codes "contains"
function_name Fun.First = codes "first"
function_name Fun.Last = codes "last"
function_name Fun.Take = codes "take"
function_name Fun.Skip = codes "skip"
function_name Fun.Join = codes "join"
function_name Fun.Union = codes "union"
function_name Fun.Intersection = codes "intersection"
function_name Fun.CreateArray = codes "createArray"
function_name Fun.Array = codes "array"
function_name Fun.Range = codes "range"
function_name Fun.Chunk = codes "chunk"
function_name Fun.Sort = codes "sort"
function_name Fun.Reverse = codes "reverse"
function_name Fun.AddProperty = codes "addProperty"
function_name Fun.SetProperty = codes "setProperty"
function_name Fun.RemoveProperty = codes "removeProperty"
function_name Fun.Add = codes "add"
function_name Fun.Sub = codes "sub"
function_name Fun.Mul = codes "mul"
function_name Fun.Div = codes "div"
function_name Fun.Mod = codes "mod"
function_name Fun.Min = codes "min"
function_name Fun.Max = codes "max"
function_name Fun.Equals = codes "equals"
function_name Fun.Greater = codes "greater"
function_name Fun.GreaterOrEquals = codes "greaterOrEquals"
function_name Fun.Less = codes "less"
function_name Fun.LessOrEquals = codes "lessOrEquals"
function_name Fun.Not = codes "not"
function_name Fun.Int = codes "int"
function_name Fun.Bool = codes "bool"
function_name Fun.IsInt = codes "isInt"
function_name Fun.AddDays = codes "addDays"
function_name Fun.AddHours = codes "addHours"
function_name Fun.AddMinutes = codes "addMinutes"
function_name Fun.AddSeconds = codes "addSeconds"
function_name Fun.AddToTime = codes "addToTime"
function_name Fun.SubtractFromTime = codes "subtractFromTime"
function_name Fun.FormatDateTime = codes "formatDateTime"
function_name Fun.StartOfDay = codes "startOfDay"
function_name Fun.StartOfHour = codes "startOfHour"
function_name Fun.StartOfMonth = codes "startOfMonth"
function_name Fun.DayOfMonth = codes "dayOfMonth"
function_name Fun.DayOfYear = codes "dayOfYear"
function_name Fun.DayOfWeek = codes "dayOfWeek"
function_name Fun.Ticks = codes "ticks"
function_name Fun.DateDifference = codes "dateDifference"
function_name Fun.UriComponent = codes "uriComponent"
function_name Fun.EncodeUriComponent = codes "encodeUriComponent"
function_name Fun.UriComponentToString = codes "uriComponentToString"
function_name Fun.DecodeUriComponent = codes "decodeUriComponent"
function_name Fun.UriScheme = codes "uriScheme"
function_name Fun.UriHost = codes "uriHost"
function_name Fun.UriPath = codes "uriPath"
function_name Fun.UriQuery = codes "uriQuery"
function_name Fun.UriPathAndQuery = codes "uriPathAndQuery"
function_name Fun.UriPort = codes "uriPort"
function_name Fun.Base64 = codes "base64"
function_name Fun.Base64ToString = codes "base64ToString"
function_name Fun.DecodeBase64 = codes "decodeBase64"
function_name Fun.DataUri = codes "dataUri"
function_name Fun.DataUriToString = codes "dataUriToString"
function_name Fun.If = codes "if"
function_name Fun.And = codes "and"
function_name Fun.Or = codes "or"
function_name Fun.Coalesce = codes "coalesce"
function_name Fun.String = codes "string"
function_name Fun.Json = codes "json"
function_name Fun.Actions = codes "actions"
function_name Fun.Outputs = codes "outputs"
function_name Fun.Body = codes "body"
function_name Fun.Result = codes "result"
function_name Fun.Action = codes "action"
function_name Fun.Item = codes "item"
function_name Fun.Items = codes "items"
function_name Fun.IterationIndexes = codes "iterationIndexes"
function_name Fun.Trigger = codes "trigger"
function_name Fun.TriggerOutputs = codes "triggerOutputs"
function_name Fun.TriggerBody = codes "triggerBody"
function_name Fun.Parameters = codes "parameters"
function_name Fun.Variables = codes "variables"
function_name Fun.Workflow = codes "workflow"
function_name Fun.UtcNow = codes "utcNow"
function_name Fun.GetFutureTime = codes "getFutureTime"
function_name Fun.GetPastTime = codes "getPastTime"
function_name Fun.Guid = codes "guid"
function_name Fun.Rand = codes "rand"
function_name Fun.Condition = codes "condition"
function_name Fun.Index = codes "index"
function_name Fun.From = codes "from"
function_name Fun.JoinWith = codes "joinWith"
function_name Fun.Foreach = codes "foreach"
function_name Fun.Switch = codes "switch"
function_name Fun.Query = codes "query"
function_name Fun.ParseJson = codes "parseJson"
function_name Fun.Variable = codes "variable"
function_name Fun.Terminate = codes "terminate"

-- what an expression can call
abbrev pub functions : List Fun
functions =
    -- texts
    Fun.Concat ∷
    Fun.Substring ∷
    Fun.Replace ∷
    Fun.Split ∷
    Fun.ToLower ∷
    Fun.ToUpper ∷
    Fun.Trim ∷
    Fun.StartsWith ∷
    Fun.EndsWith ∷
    Fun.IndexOf ∷
    Fun.LastIndexOf ∷
    Fun.Slice ∷
    -- lists and objects
    Fun.Length ∷
    Fun.Empty ∷
    Fun.Contains ∷
    Fun.First ∷
    Fun.Last ∷
    Fun.Take ∷
    Fun.Skip ∷
    Fun.Join ∷
    Fun.Union ∷
    Fun.Intersection ∷
    Fun.CreateArray ∷
    Fun.Array ∷
    Fun.Range ∷
    Fun.Chunk ∷
    Fun.Sort ∷
    Fun.Reverse ∷
    Fun.AddProperty ∷
    Fun.SetProperty ∷
    Fun.RemoveProperty ∷
    -- numbers, comparison and conversion
    Fun.Add ∷
    Fun.Sub ∷
    Fun.Mul ∷
    Fun.Div ∷
    Fun.Mod ∷
    Fun.Min ∷
    Fun.Max ∷
    Fun.Equals ∷
    Fun.Greater ∷
    Fun.GreaterOrEquals ∷
    Fun.Less ∷
    Fun.LessOrEquals ∷
    Fun.Not ∷
    Fun.Int ∷
    Fun.Bool ∷
    Fun.IsInt ∷
    -- dates and times
    Fun.AddDays ∷
    Fun.AddHours ∷
    Fun.AddMinutes ∷
    Fun.AddSeconds ∷
    Fun.AddToTime ∷
    Fun.SubtractFromTime ∷
    Fun.FormatDateTime ∷
    Fun.StartOfDay ∷
    Fun.StartOfHour ∷
    Fun.StartOfMonth ∷
    Fun.DayOfMonth ∷
    Fun.DayOfYear ∷
    Fun.DayOfWeek ∷
    Fun.Ticks ∷
    Fun.DateDifference ∷
    -- URIs and base64
    Fun.UriComponent ∷
    Fun.EncodeUriComponent ∷
    Fun.UriComponentToString ∷
    Fun.DecodeUriComponent ∷
    Fun.UriScheme ∷
    Fun.UriHost ∷
    Fun.UriPath ∷
    Fun.UriQuery ∷
    Fun.UriPathAndQuery ∷
    Fun.UriPort ∷
    Fun.Base64 ∷
    Fun.Base64ToString ∷
    Fun.DecodeBase64 ∷
    Fun.DataUri ∷
    Fun.DataUriToString ∷
    -- logic, the workflow and its run
    Fun.If ∷
    Fun.And ∷
    Fun.Or ∷
    Fun.Coalesce ∷
    Fun.String ∷
    Fun.Json ∷
    Fun.Actions ∷
    Fun.Outputs ∷
    Fun.Body ∷
    Fun.Result ∷
    Fun.Action ∷
    Fun.Item ∷
    Fun.Items ∷
    Fun.IterationIndexes ∷
    Fun.Trigger ∷
    Fun.TriggerOutputs ∷
    Fun.TriggerBody ∷
    Fun.Parameters ∷
    Fun.Variables ∷
    Fun.Workflow ∷
    Fun.UtcNow ∷
    Fun.GetFutureTime ∷
    Fun.GetPastTime ∷
    Fun.Guid ∷
    Fun.Rand ∷
    []

-- the function that an expression calls by the name; the case of ASCII letters doesn't count
abbrev pub function_of : List ℕ → Option Fun
function_of name = find (λ f. str_eq_ignore_ascii_case name (function_name f)) functions
