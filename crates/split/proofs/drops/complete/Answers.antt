-- `complete` completes a list, and its bits tell of the dropped pages.
use Rattle.flash.proofs.Kit.{◌≡◌, ap, ◌∙◌, not, List, ℕ, ◌<◌, arith, eqb, get_or}
use Rattle.flash.specs.Lists.{any}
use Rattle.split.specs.OneToOne.{kept_entries}
use Rattle.split.specs.Drops.{completed}
use Rattle.split.specs.inner.Dropping.{KeptMarked}
use Rattle.split.specs.inner.Mask.{is_marked}
use Rattle.split.proofs.MarkLaws.{unmarked}
use Rattle.split.proofs.DropLaws.{completed-below, completed-free}
use Rattle.split.proofs.drops.complete.Goals as goal

-- the marks are on the places that no page is sent to
free : {list marks : List ℕ} (places : List ℕ) → KeptMarked list marks → ((x : ℕ) → x < 4096 → is_marked places x ≡ not (is_marked marks x)) → (x : ℕ) → x < 4096
    → is_marked places x ≡ not (any (eqb x) (kept_entries list))
free places K flipped x h = flipped x h ∙ ap not (K.kept-marked x)

pub pair-requires : goal.pair-requires
pair-requires c =
    record { list_len = c.requires.list_len_bound; by_index = (λ x. rw c.requires.pages_value.0 (unmarked 64 x), free _ c.requires.pages_value.1 c.flip_all.ensures) }

pub returns : goal.returns
returns c =
    let list = c.args.list.now in record {
      list_after = c.pair.ensures.list_after;
      drops_told = record {
        pages-length = omega arith;
        places-length = omega arith;
        pages-tell = c.pair.ensures.by_index_2;
        places-tell = λ k h.
            free _ c.requires.pages_value.1 c.flip_all.ensures (get_or (completed list) k 0) (omega (arith, completed-below list c.requires.list_len_bound.1 k h, c.requires.list_len_bound.0))
            ∙ completed-free list c.requires.list_len_bound.1 k h;
      };
    }
