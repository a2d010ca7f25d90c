-- The theorems that `claims` promises.
use Rattle.orders.proofs.DictionaryLaws.{orders-numbered}
use Rattle.orders.proofs.Claimed.{least-claim, best-claim, numbers-in-order}
use Rattle.orders.proofs.Exampled.{examples}
use Rattle.orders.proofs.claims.Goals as goal

pub returns : goal.returns
returns c = record {
  least_given = least-claim;
  orders_numbered = orders-numbered;
  best_given = best-claim;
  numbers_in_order = numbers-in-order;
  examples = examples;
}
