use Rattle.std.proofs.Common.{◌≡◌, drop}
use Rattle.wf_outside.specs.MemFiles.{bytes_at}
use Rattle.wf_outside.proofs.mem_files.MemFiles.find.Given as goal

abbrev pub invariant-loop-file : goal.invariant-loop-file
invariant-loop-file l = bytes_at (drop l.file-index l.self.files.items) l.name ≡ bytes_at l.self.files.items l.name
