-- The theorems of the crate, each with its proof: what `claims` asks for.
use Rattle.method.proofs.examples.Cases.{cases-hold}
use Rattle.method.proofs.examples.DropCases.{drop-cases-hold}
use Rattle.method.proofs.examples.WearCases.{wear-cases-hold}
use Rattle.method.proofs.examples.ReachCases.{reach-cases-hold}
use Rattle.method.proofs.examples.RebuildCases.{rebuild-cases-hold}
use Rattle.method.proofs.places.StepsCounted.{steps-counted}
use Rattle.method.proofs.places.PlacesDiffer.{places-differ}
use Rattle.method.proofs.places.ErasesCounted.{erases-counted}
use Rattle.method.proofs.places.PagesRise.{pages-rise}
use Rattle.method.proofs.walks.WalksEnd.{top-is-highest, walks-end}
use Rattle.method.proofs.recovery.OldCuts.{old-cuts, one-unfinished}
use Rattle.method.proofs.recovery.LinesAgree.{lines-agree}
use Rattle.method.proofs.recovery.ErasesNext.{erases-next}
use Rattle.method.proofs.refusals.FirstReturned.{first-by-all}
use Rattle.method.proofs.states.RunsAddUp.{runs-add-up, states-reached}
use Rattle.method.proofs.states.Undropped.{no-drops}
use Rattle.method.proofs.states.RunsCount.{runs-count}
use Rattle.method.proofs.states.ReadsCounted.{reads-counted}
use Rattle.method.proofs.demand.EveryEvent.{demand-3}
use Rattle.method.proofs.rebuild.Right.{torn-loses-nothing, rebuilt-right}
use Rattle.method.proofs.rebuild.LostStores.{lost-exactly}
use Rattle.method.proofs.rebuild.OnlyOther.{only-other, lost-few}
use Rattle.method.proofs.wear.WearCounts.{wear-counts}
use Rattle.method.proofs.wear.HighestKept.{highest-kept}
use Rattle.method.proofs.demand.PinsKept.{pins-stay}
use Rattle.method.proofs.refusals.PinFirst.{pin-first}
use Rattle.method.proofs.reach.RunsApart.{reach-of-one}
use Rattle.method.proofs.examples.Example.{example-holds, bounds-met}
use Rattle.method.proofs.examples.TwoPages.{two-pages-hold}
use Rattle.method.proofs.claims.Goals as goal

pub returns : goal.returns
returns c = record { cases = cases-hold; drop-cases = drop-cases-hold; wear-cases = wear-cases-hold; rebuild-cases = rebuild-cases-hold; reach-cases = reach-cases-hold; runs = runs-add-up; states = states-reached; counts = runs-count; reads = reads-counted; steps = steps-counted; places = places-differ; erases = erases-counted; pages = pages-rise; tops = top-is-highest; walks = walks-end; old-cuts = old-cuts; one-unfinished = one-unfinished; lines = lines-agree; erases-next = erases-next; first = first-by-all; demand-3 = demand-3; torn-loses-nothing = torn-loses-nothing; rebuilt-right = rebuilt-right; lost-exactly = lost-exactly; only-other = only-other; lost-few = lost-few; wear = wear-counts; highest = highest-kept; pins = pins-stay; pin-first = pin-first; no-drops = no-drops; reach = reach-of-one; bounds = bounds-met; example = example-holds; two-pages = two-pages-hold }
