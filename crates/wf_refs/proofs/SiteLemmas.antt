-- Which sites a definition has.
use Rattle.std.proofs.Common.{◌≡◌, Option, Some, None, option_map, is_some, refl}

pub map-there : {X Y : Type 0} (f : X → Y) (o : Option X) → is_some (option_map f o) ≡ is_some o
map-there f None = refl
map-there f (Some x) = refl
