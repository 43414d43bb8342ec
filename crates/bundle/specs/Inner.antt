-- What private functions ask and answer, beside what a promise says. Nothing here is needed to read a promise.
use Rattle.std.specs.Prelude.{ℕ}
use Rattle.little.specs.Read.{u16_range}

-- what a u16 counts is below it
abbrev pub counted : ℕ
counted = u16_range

-- sheets end below this: an offset u32 and a length u32
abbrev pub farthest : ℕ
farthest = 8_589_934_592
