-- The rows of each call stand in the order of the numbers, so the first that fits gives the first number that applies.
use Rattle.flash.proofs.Kit.{refl}
use Rattle.flash.specs.Tables.{before}
use Rattle.flash.proofs.Tables.{first-returned}
use Rattle.split.specs.Answer.{split_rows}
use Rattle.method.specs.Answers.{order, move_rows, run_rows, mend_rows, read_rows}
use Rattle.method.specs.Rebuild.{rebuild_rows}
use Rattle.method.specs.Claims.{FirstReturned}

pub first-by-all : FirstReturned
unfolding order before split_rows move_rows run_rows mend_rows read_rows rebuild_rows
first-by-all = record {
  by-split = λ R. first-returned order (split_rows R) 0 refl;
  by-run = λ R chip work wear place limit. first-returned order (run_rows R chip work wear place limit) 0 refl;
  by-mend = λ Z chip. first-returned order (mend_rows Z chip) 0 refl;
  by_read = λ R chip work k. first-returned order (read_rows R chip work k) 0 refl;
  by-rebuild = λ R chip area flags bad. first-returned order (rebuild_rows R chip area flags bad) 0 refl;
}
