-- The demand where file reads are compared only at the offsets and lengths that a caller can give, up to `most`. Of the volumes it takes `Reads`, and
-- that no file is longer than `most`.
use Prim.Native.Nat.{ℕ, ◌≤◌}
use mathlib.Core.Path.{◌≡◌, refl, sym, ◌∙◌}
use mathlib.Core.Logic.{◌↔◌}
use mathlib.Core.List.{List}
use native.Mathlib.Omega.{arith}
use lib.ListN.{length}
use lib.Seq.{take_all}
use Rattle.error.specs.Answer.{Ok}
use Rattle.lines.specs.Shown.{InodeShown, EntryShown, AttributeShown, Contents, packed, plain}
use Rattle.demand.specs.View.{View}
use Rattle.demand.specs.Listing.{listing}
use Rattle.demand.specs.Demand.{Met, Agree, past, on, AgreeTo, past_to, on_to, SameTo}
use Rattle.demand.specs.Shows.{ShowsNode}
use Rattle.demand.proofs.Shows.{listing_done}
use Rattle.demand.proofs.Walks.{Reads, read_of, read_shown, Ends, ends_past, ends_on, ends}
use Rattle.demand.proofs.Views.{listings_same}

module _ (most : ℕ) where
  pub record Short (v : View) : Type 0 where
    pub short : (i : ℕ) (f : InodeShown) (bs : List ℕ) → v.inode i ≡ Ok f → v.contents f.id ≡ Ok bs → length bs ≤ most

  abbrev Fits : Contents → Type 0
  Fits packed = Unit
  Fits (plain bs) = length bs ≤ most

  fits : (v : View) → Short v → (i : ℕ) (f : InodeShown) (l : List (AttributeShown (List ℕ))) (c : Contents) (es : List EntryShown) → ShowsNode v i f l c es → Fits c
  fits v s i f l packed es p = tt
  fits v s i f l (plain bs) es p = s.short i f bs p.inode p.contents.1

  contents_to : (c d : Contents) → Fits c → Fits d → read_of c 0 most ≡ read_of d 0 most → c ≡ d
  contents_to packed packed p q h = refl
  contents_to packed (plain d) p q h = cc
  contents_to (plain b) packed p q h = cc
  contents_to (plain b) (plain d) p q h =
      let x = take_all most b p in
      let y = take_all most d q in
      cc

  module _ (v w : View) (rv : Reads v) (rw' : Reads w) (sv : Short v) (sw : Short w) where
    at_one : (i j : ℕ) (f : InodeShown) (l k : List (AttributeShown (List ℕ))) (c d : Contents) (es fs : List EntryShown) → ShowsNode v i f l c es → ShowsNode w j f k d fs
        → v.read f.id 0 most ≡ w.read f.id 0 most → (off len : ℕ) → v.read f.id off len ≡ w.read f.id off len
    at_one i j f l k c d es fs p q h off len =
        let a : (x y : ℕ) → v.read f.id x y ≡ read_of c x y = read_shown v rv i f l c es p in
        let b : (x y : ℕ) → w.read f.id x y ≡ read_of d x y = read_shown w rw' j f k d fs q in
        let e : c ≡ d = contents_to c d (fits v sv i f l c es p) (fits w sw j f k d fs q) (sym (a 0 most) ∙ h ∙ b 0 most) in
        cc (a off len, b off len)

    whole : (m n : Met) → Ends v v m m → Ends w w n n → AgreeTo most v w m n → Agree v w m n
    whole m n x y (past_to p q) = past p q
    whole m n (ends_past p p') y (on_to f h k e a r) = let z : ◌≡◌ {A = ℕ} 0 1 = cc in absurd (omega arith)
    whole m n (ends_on i g l c es p p' hm hm') (ends_past q q') (on_to f h k e a r) = let z : ◌≡◌ {A = ℕ} 0 1 = cc in absurd (omega arith)
    whole m n (ends_on i g l c es p p' hm hm') (ends_on j g' l' c' es' q q' hn hn') (on_to f h k e a r) =
        let x : g ≡ f = cc in
        let y : g' ≡ f = cc in
        on f h k e a (at_one i j f l l' c c' es es' (rw x at p) (rw y at q) (r 0 most (omega arith) (omega arith)))

  agree_to : (v w : View) (m n : Met) → Agree v w m n → AgreeTo most v w m n
  agree_to v w m n (past p q) = past_to p q
  agree_to v w m n (on f p q e a r) = on_to f p q e a (λ off len h k. r off len)

  pub listings_same_to : (v w : View) (m n : ℕ) (t u : List ℕ) → Reads v → Reads w → Short v → Short w → listing v m ≡ Ok t → listing w n ≡ Ok u → (t ≡ u) ↔ SameTo most v w
  listings_same_to v w m n t u rv rw' sv sw p q =
      let a = listing_done v m p in
      let b = listing_done w n q in
      let both = listings_same v w m n t u rv rw' p q in (
        λ h. let s = both.0 h in record { label = s.label; rule = s.rule; chains = λ c. agree_to v w _ _ (s.chains c) },
        λ s. both.1 (record {
          label = s.label;
          rule = s.rule;
          chains = λ c. whole v w rv rw' sv sw _ _ (ends v v c 2 a.tree a.shows a.shows) (ends w w c 2 b.tree b.shows b.shows) (s.chains c);
        }),
      )
