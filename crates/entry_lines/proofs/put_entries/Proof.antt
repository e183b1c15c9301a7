use Prim.Native.Nat.{◌≤◌}
use mathlib.Core.Path.{◌≡◌}
use lib.ListN.{length, drop}
use borrow.Author.Rules.{rules}
use Rattle.text.specs.Output.{at, puts}
use Rattle.cursor.specs.Left.{run_at}
use Rattle.cursor.proofs.Through.{rest}
use Rattle.records.specs.Directory.{entry_at}
use Rattle.lists.specs.Inner.{readable}
use Rattle.entry_lines.specs.Entries.{lines_of, fitting}
use Rattle.entry_lines.proofs.Fitting.{writes, walks, lines_over, lines_no, lines_full, lines_next, lines_done}
use Rattle.entry_lines.proofs.put_entries.Statement.{statement}
use Rattle.entry_lines.proofs.put_entries.Tie as tie

abbrev invariant-loop : tie.invariant-loop-c
invariant-loop out₀ room image id place q keys reader n₀ left₀ s₀ i₀ out n left s i =
    (writes reader image room n left (readable (entry_at q.keys.hashed q.keys.reader image) (run_at image q s i)) out ≡ puts room (fitting room (lines_of reader image (drop place (readable (entry_at q.keys.hashed q.keys.reader image) (run_at image q s₀ i₀))))) (at out₀ 0))
    × (n ≤ room) × (length out ≡ length out₀)

abbrev decreases-loop : tie.decreases-loop-c
decreases-loop out₀ room image id place q keys reader n₀ left₀ s₀ i₀ out n left s i = rest image q s i

pub put_entries_spec : {M : Type 1} → statement M
put_entries_spec =
    tie.close
    (tie.spec
    invariant-loop
    decreases-loop
    (λ c κs. search walks)
    (λ c. search walks)
    (λ c κs. search walks)
    (λ c. search walks)
    (λ c. search walks)
    (λ c. lines_done c.args.image.now c.args.v _ c.args.place _ _ c.args.start c.args.out.now _ c.search-q.ensures (lines_over _ _ _ _ _ _ _ _ _ _ c.loop-c.invariant.0 _ c.entry_in.ensures (search rules)))
    (λ c. search walks)
    (λ c. search walks)
    (λ c. lines_done c.args.image.now c.args.v _ c.args.place _ _ c.args.start c.args.out.now _ c.search-q.ensures (lines_no _ _ _ _ _ _ _ _ _ _ c.loop-c.invariant.0 _ c.entry_in.ensures _ c.in-Refused.is))
    (λ c. search walks)
    (λ c κs. search walks)
    (λ c. search walks)
    (λ c. search walks)
    (λ c. search walks)
    (λ c κs. search walks)
    (λ c. search walks)
    (λ c. search walks)
    (λ c. lines_done c.args.image.now c.args.v _ c.args.place _ _ c.args.start c.args.out.now _ c.search-q.ensures (lines_full _ _ _ _ _ _ _ _ _ _ c.loop-c.invariant.0 _ c.entry_in.ensures _ _ c.in-Element.is c.loop-c.invariant.1 _ _ c.put_next.ensures _ c.in-Err.is))
    (λ c. search walks)
    (λ c κs. search walks)
    (λ c. search walks)
    (λ c. (lines_next _ _ _ _ _ _ _ _ _ _ c.loop-c.invariant.0 _ c.entry_in.ensures _ _ c.in-Element.is c.loop-c.invariant.1 _ _ c.put_next.ensures _ _ c.in-Ok.is c.fewer-left.ensures, search walks, search walks)))
