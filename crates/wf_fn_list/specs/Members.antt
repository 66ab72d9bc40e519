-- Edits of objects (Workflow Definition Language, collection functions addProperty, setProperty and removeProperty).
use Rattle.std.specs.Prelude.{List, Err, is_some, if◌then◌else◌}
use Rattle.wf_val.specs.Arguments.{Answer, given, text_at, object_at, value_at, bounded}
use Rattle.wf_val.specs.Get.{name_of, value_of}
use Rattle.wf_val.specs.NameOrder.{put_named, without_named}
use Rattle.wf_val.specs.ValueTree.{ValueTree, object, members}
use Rattle.wf_val.specs.declared.fault.EvalFault.{EvalFault}
use Rattle.wf_val.specs.declared.function.Fun.{Fun}

-- the object with a further member; `Range` where it has one of the name
abbrev pub add_property_row : List ValueTree → Answer
add_property_row ts =
    given (object_at Fun.AddProperty ts 0) (λ ms. given (text_at Fun.AddProperty ts 1) (λ k. given (value_at Fun.AddProperty ts 2) (λ v.
    if is_some (value_of k ms) then Err (EvalFault.Range Fun.AddProperty) else bounded (object (members (put_named name_of (k, v) ms))))))

-- the object with the member, in place of the one that has the name
abbrev pub set_property_row : List ValueTree → Answer
set_property_row ts =
    given (object_at Fun.SetProperty ts 0) (λ ms. given (text_at Fun.SetProperty ts 1) (λ k. given (value_at Fun.SetProperty ts 2) (λ v.
    bounded (object (members (put_named name_of (k, v) ms))))))

-- the object without the member of the name
abbrev pub remove_property_row : List ValueTree → Answer
remove_property_row ts =
    given (object_at Fun.RemoveProperty ts 0) (λ ms. given (text_at Fun.RemoveProperty ts 1) (λ k.
    bounded (object (members (without_named name_of k ms)))))
