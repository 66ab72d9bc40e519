-- V1: what has to be an object, a list or a text is one.
use Rattle.std.specs.Prelude.{ℕ, ◌++◌, List, [], Bool, true, false, not, Option, if◌then◌else◌, codes}
use Rattle.std.specs.List.{list_all}
use Rattle.std.specs.Option.{option_map_or}
use Rattle.wf_after.specs.Pointer.{flagged, here}
use Rattle.wf_val.specs.ValueTree.{ValueTree, text, list, object, items, pairs}
use Rattle.wf_val.specs.Get.{get, is_object}
use Rattle.wf_form.specs.declared.form.Shape.{Shape}
use Rattle.wf_form.specs.declared.role.Role.{Role}

abbrev pub is_text : ValueTree → Bool
is_text (text s) = true
is_text t = false

abbrev pub is_list : ValueTree → Bool
is_list (list ts) = true
is_list t = false

abbrev pub is_list_of_texts : ValueTree → Bool
is_list_of_texts (list ts) = list_all is_text (items ts)
is_list_of_texts t = false

-- an object of lists of texts
abbrev pub is_run_after : ValueTree → Bool
is_run_after (object ms) = list_all (λ m. is_list_of_texts m.1) (pairs ms)
is_run_after t = false

abbrev pub has_shape : Shape → ValueTree → Bool
has_shape Shape.Text t = is_text t
has_shape Shape.List t = is_list t
has_shape Shape.Object t = is_object t
has_shape Shape.RunAfter t = is_run_after t

-- there is a value, null included, and it isn't of the shape
abbrev pub breaks : Shape → Option ValueTree → Bool
breaks shape value = option_map_or (λ v. not (has_shape shape v)) value false

abbrev pub misshapen : Shape → List ℕ → ValueTree → List (List ℕ)
misshapen shape key t = flagged (breaks shape (get key t)) key

abbrev pub members_form : Role → ValueTree → List (List ℕ)
members_form Role.Definition t = misshapen Shape.Text (codes "contentVersion") t
members_form Role.Parameter t = misshapen Shape.List (codes "allowedValues") t
members_form (Role.Action level) t =
    misshapen Shape.RunAfter (codes "runAfter") t
    ++ (misshapen Shape.Object (codes "trackedProperties") t ++ misshapen Shape.Object (codes "runtimeConfiguration") t)
members_form role t = []

-- whatever has a role is an object; of one that is, some members have a shape
unfoldable pub form : Role → ValueTree → List (List ℕ)
form role t = if is_object t then members_form role t else here true
