-- What is said directly behind tags of a kind, as a name behind the tag of names.
use Rattle.std.specs.Prelude.{ℕ, Bool, true, false, List, [], ◌∷◌, ◌++◌, if◌then◌else◌}
use Rattle.wf_html.specs.Html.{Piece, opened, closed, said}
use Rattle.wf_html.specs.declared.tag.Tag.{Tag}

-- the text that pieces begin with
abbrev pub said_first : List Piece → List (List ℕ)
said_first [] = []
said_first (opened t ∷ ps) = []
said_first (closed t ∷ ps) = []
said_first (said text ∷ ps) = text ∷ []

abbrev pub said_behind : (Tag → Bool) → List Piece → List (List ℕ)
said_behind is [] = []
said_behind is (opened t ∷ ps) = (if is t then said_first ps else []) ++ said_behind is ps
said_behind is (closed t ∷ ps) = said_behind is ps
said_behind is (said text ∷ ps) = said_behind is ps

-- the tag of an action's name
abbrev pub is_name : Tag → Bool
is_name Tag.Name = true
is_name t = false

-- and that of the iterations which a row is of
abbrev pub is_place : Tag → Bool
is_place Tag.Place = true
is_place t = false
