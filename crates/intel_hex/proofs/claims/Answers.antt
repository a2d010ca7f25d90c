-- The theorems that `claims` promises.
use Rattle.intel_hex.proofs.Lengths.{text-length}
use Rattle.intel_hex.proofs.Back.{records-taken}
use Rattle.intel_hex.proofs.Uppers.{upper_halves}
use Rattle.intel_hex.proofs.Answered.{round_trip, texts-differ}
use Rattle.intel_hex.proofs.Exampled.{examples}
use Rattle.intel_hex.proofs.claims.Goals as goal

pub returns : goal.returns
returns c =
    record {
      text_length = text-length;
      records_taken = records-taken;
      upper_halves = upper_halves;
      round_trip = round_trip;
      texts_differ = texts-differ;
      examples = examples;
    }
