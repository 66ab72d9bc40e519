-- The form of inputs, as a table: what each value in them has to be.
use Rattle.std.specs.Prelude.{ℕ, List, [], ◌∷◌, Bool, false, Option, Some, None, if◌then◌else◌, bytes_eq, codes}
use Rattle.wf_places.specs.Form.{Form}
use Rattle.wf_val.specs.Get.{is_object}
use Rattle.wf_val.specs.ValueTree.{ValueTree, fits}
use Rattle.wf_answers.specs.Asked.{is_text, is_list, is_name, is_within, is_index, is_status, is_fitting_object}
use Rattle.wf_answers.specs.declared.part.Part.{Part}

abbrev pub is_right : Part → ValueTree → Bool
is_right Part.Whole = is_object
is_right Part.Run = is_name 64
is_right Part.Text = is_text
is_right Part.Fitting = fits
is_right Part.Parameters = is_object
is_right Part.Answers = is_list
is_right Part.Answer = is_object
is_right Part.At = is_list
is_right Part.Index = is_index
is_right Part.Attempt = is_within 1 91
is_right Part.Status = is_status
is_right Part.Headers = is_fitting_object

abbrev pub needed : Part → List (List ℕ)
needed Part.Whole = codes "moment" ∷ codes "run" ∷ []
needed Part.Answer = codes "action" ∷ codes "status" ∷ []
needed part = []

abbrev pub whole_member : List ℕ → Option Part
whole_member name =
    if bytes_eq name (codes "answers") then Some Part.Answers else
    (if bytes_eq name (codes "moment") then Some Part.Text else
    (if bytes_eq name (codes "outputs") then Some Part.Fitting else
    (if bytes_eq name (codes "parameters") then Some Part.Parameters else
    (if bytes_eq name (codes "run") then Some Part.Run else
    (if bytes_eq name (codes "seed") then Some Part.Text else
    (if bytes_eq name (codes "trigger") then Some Part.Text else None))))))

abbrev pub answer_member : List ℕ → Option Part
answer_member name =
    if bytes_eq name (codes "action") then Some Part.Text else
    (if bytes_eq name (codes "at") then Some Part.At else
    (if bytes_eq name (codes "attempt") then Some Part.Attempt else
    (if bytes_eq name (codes "body") then Some Part.Fitting else
    (if bytes_eq name (codes "headers") then Some Part.Headers else
    (if bytes_eq name (codes "status") then Some Part.Status else None)))))

abbrev pub part_member : Part → List ℕ → Option Part
part_member Part.Whole name = whole_member name
part_member Part.Parameters name = Some Part.Fitting
part_member Part.Answer name = answer_member name
part_member part name = None

abbrev pub part_item : Part → Option Part
part_item Part.Answers = Some Part.Answer
part_item Part.At = Some Part.Index
part_item part = None

-- further members are ignored, and nothing else is asked
abbrev pub inputs_form : Form Part
inputs_form = record {
  is_right = is_right;
  needed = needed;
  is_closed = λ part. false;
  member = part_member;
  item = part_item;
  beside = λ part t. [];
}
