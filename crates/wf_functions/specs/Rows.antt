-- THE ROWS of all functions that are functions of values alone.
use Rattle.std.specs.Prelude.{List, [], ◌∷◌, length, map, Result, Ok, Err, if◌then◌else◌}
use Rattle.wf_val.specs.Arguments.{Answer, given, wrong_type, bounded}
use Rattle.wf_val.specs.Arity.{takes}
use Rattle.wf_val.specs.Function.{function_name}
use Rattle.wf_val.specs.ValueTree.{ValueTree, null, text, list, object, no_members, trees, items}
use Rattle.wf_val.specs.declared.fault.EvalFault.{EvalFault}
use Rattle.wf_val.specs.declared.function.Fun.{Fun}
use Rattle.wf_json.specs.Json as json_text
use Rattle.wf_json.specs.Read.{read_value}
use Rattle.wf_json.specs.declared.fault.JsonFault.{JsonFault}
use Rattle.wf_fn_list.specs.Chunks.{chunk_row}
use Rattle.wf_fn_list.specs.Making.{create_array_row, array_row}
use Rattle.wf_fn_list.specs.Members.{add_property_row, set_property_row, remove_property_row}
use Rattle.wf_fn_list.specs.Membership.{contains_row, empty_row}
use Rattle.wf_fn_list.specs.Parts.{length_row, first_row, last_row, take_row, skip_row, reverse_row, join_row}
use Rattle.wf_fn_list.specs.Ranges.{range_row}
use Rattle.wf_fn_math.specs.Arithmetic.{add_row, sub_row, mul_row, div_row, mod_row}
use Rattle.wf_fn_math.specs.Comparison.{equals_row, greater_row, greater_or_equals_row, less_row, less_or_equals_row, not_row}
use Rattle.wf_fn_math.specs.Conversion.{int_row, bool_row, is_int_row}
use Rattle.wf_fn_math.specs.Extremes.{min_row, max_row}
use Rattle.wf_fn_sets.specs.Sets.{union_row, intersection_row}
use Rattle.wf_fn_sets.specs.Sorting.{sort_row}
use Rattle.wf_fn_text.specs.Cases.{to_lower_row, to_upper_row, trim_row}
use Rattle.wf_fn_text.specs.Joining.{concat_row}
use Rattle.wf_fn_text.specs.Parts.{substring_row, slice_row}
use Rattle.wf_fn_text.specs.Pieces.{split_row, replace_row}
use Rattle.wf_fn_text.specs.Places.{starts_with_row, ends_with_row, index_of_row, last_index_of_row}
use Rattle.wf_fn_time.specs.Difference.{date_difference_row}
use Rattle.wf_fn_time.specs.Formatting.{format_date_time_row, start_of_day_row, start_of_hour_row, start_of_month_row}
use Rattle.wf_fn_time.specs.Moving.{add_days_row, add_hours_row, add_minutes_row, add_seconds_row, add_to_time_row, subtract_from_time_row}
use Rattle.wf_fn_time.specs.Places.{day_of_month_row, day_of_year_row, day_of_week_row, ticks_row}
use Rattle.wf_fn_uri.specs.Encodings.{base64_row, from_base64_row, data_uri_row, from_data_uri_row}
use Rattle.wf_fn_uri.specs.Escapes.{escaped_row, unescaped_row}
use Rattle.wf_fn_uri.specs.Parts.{of_url, scheme_of, host_of, path_of, query_of, path_and_query_of, port_of}

-- a value as text
abbrev pub string_row : List ValueTree → Answer
string_row (t ∷ ts) = Ok (text (json_text.text t))
string_row [] = Err (wrong_type Fun.String 0)

-- what a text reads as
abbrev pub read_answer : Result ValueTree JsonFault → Answer
read_answer (Ok t) = Ok t
read_answer (Err f) = Err (EvalFault.BadText Fun.Json)

-- a text is read, null gives an object without members, and another value is itself
abbrev pub json_row : List ValueTree → Answer
json_row (text s ∷ ts) = read_answer (read_value s)
json_row (null ∷ ts) = Ok (object no_members)
json_row (t ∷ ts) = Ok t
json_row [] = Err (wrong_type Fun.Json 0)

-- a value as text, as a value
abbrev pub as_text : ValueTree → ValueTree
as_text t = text (json_text.text t)

-- a list with its items as texts; anything else stays
abbrev pub texts_in : ValueTree → ValueTree
texts_in (list ts) = list (trees (map as_text (items ts)))
texts_in t = t

-- `join` gets the items of its list as texts; a list in the place of the text between is refused, whatever its items are
abbrev pub items_row : List ValueTree → Answer
items_row ts = join_row (map texts_in ts)

-- the row of each function of values; the others have no value by those of their arguments alone
abbrev pub row_of : Fun → List ValueTree → Answer
row_of Fun.Concat = concat_row
row_of Fun.Substring = substring_row
row_of Fun.Replace = replace_row
row_of Fun.Split = split_row
row_of Fun.ToLower = to_lower_row
row_of Fun.ToUpper = to_upper_row
row_of Fun.Trim = trim_row
row_of Fun.StartsWith = starts_with_row
row_of Fun.EndsWith = ends_with_row
row_of Fun.IndexOf = index_of_row
row_of Fun.LastIndexOf = last_index_of_row
row_of Fun.Slice = slice_row
row_of Fun.Length = length_row
row_of Fun.Empty = empty_row
row_of Fun.Contains = contains_row
row_of Fun.First = first_row
row_of Fun.Last = last_row
row_of Fun.Take = take_row
row_of Fun.Skip = skip_row
row_of Fun.Join = items_row
row_of Fun.Union = union_row
row_of Fun.Intersection = intersection_row
row_of Fun.CreateArray = create_array_row
row_of Fun.Array = array_row
row_of Fun.Range = range_row
row_of Fun.Chunk = chunk_row
row_of Fun.Sort = sort_row
row_of Fun.Reverse = reverse_row
row_of Fun.AddProperty = add_property_row
row_of Fun.SetProperty = set_property_row
row_of Fun.RemoveProperty = remove_property_row
row_of Fun.Add = add_row
row_of Fun.Sub = sub_row
row_of Fun.Mul = mul_row
row_of Fun.Div = div_row
row_of Fun.Mod = mod_row
row_of Fun.Min = min_row
row_of Fun.Max = max_row
row_of Fun.Equals = equals_row
row_of Fun.Greater = greater_row
row_of Fun.GreaterOrEquals = greater_or_equals_row
row_of Fun.Less = less_row
row_of Fun.LessOrEquals = less_or_equals_row
row_of Fun.Not = not_row
row_of Fun.Int = int_row
row_of Fun.Bool = bool_row
row_of Fun.IsInt = is_int_row
row_of Fun.String = string_row
row_of Fun.Json = json_row
row_of Fun.AddDays = add_days_row
row_of Fun.AddHours = add_hours_row
row_of Fun.AddMinutes = add_minutes_row
row_of Fun.AddSeconds = add_seconds_row
row_of Fun.AddToTime = add_to_time_row
row_of Fun.SubtractFromTime = subtract_from_time_row
row_of Fun.FormatDateTime = format_date_time_row
row_of Fun.StartOfDay = start_of_day_row
row_of Fun.StartOfHour = start_of_hour_row
row_of Fun.StartOfMonth = start_of_month_row
row_of Fun.DayOfMonth = day_of_month_row
row_of Fun.DayOfYear = day_of_year_row
row_of Fun.DayOfWeek = day_of_week_row
row_of Fun.Ticks = ticks_row
row_of Fun.DateDifference = date_difference_row
row_of Fun.UriComponent = escaped_row Fun.UriComponent
row_of Fun.EncodeUriComponent = escaped_row Fun.EncodeUriComponent
row_of Fun.UriComponentToString = unescaped_row Fun.UriComponentToString
row_of Fun.DecodeUriComponent = unescaped_row Fun.DecodeUriComponent
row_of Fun.UriScheme = of_url Fun.UriScheme scheme_of
row_of Fun.UriHost = of_url Fun.UriHost host_of
row_of Fun.UriPath = of_url Fun.UriPath path_of
row_of Fun.UriQuery = of_url Fun.UriQuery query_of
row_of Fun.UriPathAndQuery = of_url Fun.UriPathAndQuery path_and_query_of
row_of Fun.UriPort = of_url Fun.UriPort port_of
row_of Fun.Base64 = base64_row
row_of Fun.Base64ToString = from_base64_row Fun.Base64ToString
row_of Fun.DecodeBase64 = from_base64_row Fun.DecodeBase64
row_of Fun.DataUri = data_uri_row
row_of Fun.DataUriToString = from_data_uri_row
row_of f = λ ts. Err (EvalFault.NoValue (function_name f))

-- a call with a count of arguments that the function doesn't take has no value: the place behind the last is named
abbrev pub strict_row : Fun → List ValueTree → Answer
strict_row f ts = if takes f (length ts) then row_of f ts else Err (wrong_type f (length ts))

-- a value, where it fits
abbrev pub fitted : Answer → Answer
fitted a = given a bounded

-- ---- a function of texts, which gets its arguments as texts

-- `concat`
abbrev pub joined_row : List ValueTree → Answer
joined_row ts = fitted (strict_row Fun.Concat (map as_text ts))
