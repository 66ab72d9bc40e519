-- What files in memory hold, and what became of the reads.
use Rattle.std.specs.Prelude.{◌≡◌, ◌⊎◌, ℕ, List, [], ◌∷◌, Option, None, Some, if◌then◌else◌}
use Rattle.std.specs.Str.{bytes_eq}
use Rattle.wf_outside.specs.CallPlan.{CallPlan, IsDue}
use Rattle.wf_outside.specs.declared.mem_files.MemFile.{MemFile}
use Rattle.wf_outside.specs.declared.mem_files.MemFiles.{MemFiles}

-- the bytes of the first file of that name
abbrev pub bytes_at : List MemFile → List ℕ → Option (List ℕ)
bytes_at [] name = None
bytes_at (file ∷ files) name = if bytes_eq file.name name then Some file.bytes.items else bytes_at files name

-- the bytes of each name that there is
abbrev pub files_held : MemFiles → List ℕ → Option (List ℕ)
files_held files = bytes_at files.files.items

-- the names whose reads failed
abbrev pub names_failed : MemFiles → List (List ℕ)
names_failed files = files.failed.items

-- the reads made, and those that are to fail
abbrev pub reads : MemFiles → CallPlan
reads files = files.calls

-- the next read fails if it is of that name: it is to fail, or there is no such file
abbrev pub WillFail : MemFiles → List ℕ → Type 0
WillFail files name = IsDue (reads files) ⊎ (files_held files name ≡ None)
