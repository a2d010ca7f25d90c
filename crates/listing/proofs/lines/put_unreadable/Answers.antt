-- `put_unreadable` prints the line for an input that cannot be read.
use Rattle.listing.specs.Lines.{unreadable_line}
use Rattle.listing.proofs.lines.put_unreadable.Goals as goal

pub put_text-requires : goal.put_text-requires
unfolding unreadable_line
put_text-requires c = c.requires

pub returns : goal.returns
unfolding unreadable_line
returns c = c.put_text.ensures
