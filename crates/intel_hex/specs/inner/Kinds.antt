-- The byte that a record has for its type, for each case that the code has.
use Rattle.std.specs.Prelude.{ℕ}
use Rattle.intel_hex.specs.declared.kind.Kind.{Kind}
use Rattle.intel_hex.specs.declared.kind.Kind.TheVariants.{Data, End, Upper}

abbrev pub code_of : Kind → ℕ
code_of Data = 0
code_of End = 1
code_of Upper = 4
