-- The names of files: those in a file of tests are relative to its folder.
use Rattle.std.specs.Prelude.{ℕ, suc, List, [], ◌∷◌, ◌++◌, take, Bool, false, nat_eq, if◌then◌else◌}
use Rattle.std.specs.Str.Lossy.{utf8_lossy}

-- behind the last slash from a place on; `end` where there is none
abbrev pub folder_end : ℕ → ℕ → List ℕ → ℕ
folder_end end place [] = end
folder_end end place (b ∷ bs) = folder_end (if nat_eq b 47 then suc place else end) (suc place) bs

-- the part of a name up to its last slash
abbrev pub folder : List ℕ → List ℕ
folder name = take (folder_end 0 0 name) name

abbrev pub is_rooted : List ℕ → Bool
is_rooted [] = false
is_rooted (b ∷ bs) = nat_eq b 47

-- the name of a file that lies beside another; one that begins with a slash is its own
abbrev pub beside : List ℕ → List ℕ → List ℕ
beside file name = if is_rooted name then name else utf8_lossy (folder file ++ name)
