-- What block 0 gives are its fields, and the descriptor area that it gives lies in the image.
use Prim.Native.Nat.{ℕ, ◌+◌, ◌-◌, ◌*◌, ◌/◌, ◌^◌, ◌≤◌}
use mathlib.Core.Path.{◌≡◌, refl, sym, ap, ◌∙◌}
use mathlib.Core.Bool.{Bool, true, false}
use mathlib.Core.List.{List}
use lib.Count.{ones}
use lib.ListN.{length}
use native.Mathlib.Nat.{zero-add}
use native.Mathlib.Omega.{arith}
use Rattle.error.specs.Answer.{Answer, Ok, Err, pick}
use Rattle.error.specs.declared.Refusal.{Refusal}
use Rattle.error.specs.declared.Refusal.TheVariants.{Io, NotFound}
use Rattle.error.proofs.Laws.{at_most_lem, same, other, picked, le_cases, eq_cases, bound}
use Rattle.byte_fields.specs.Number.{number_at, little}
use Rattle.byte_fields.specs.Part.{part_of, span_at}
use Rattle.byte_fields.specs.declared.Span.{Span}
use Rattle.byte_fields.proofs.Laws.{part_little, part_number}
use Rattle.arith.specs.Checked.{fitting, product_of}
use Rattle.geometry.specs.BlockZero.{has_magic, size_ok, size_in, size_at, ring_of, geometry_in, geometry_at, area_at}
use Rattle.geometry.specs.declared.Geometry.{Geometry}
use Rattle.checkpoints.proofs.Candidate.{magic_means, magic_if}
use Rattle.nx.specs.LatestCheckpoint.{block_zero, BlockZeroRead, AreaRead}

pub never : {A B : Type 0} {w : Refusal} {y : A} → ◌≡◌ {A = Answer _} (Err w) (Ok y) → B
never e = absurd (let z : ◌≡◌ {A = ℕ} 0 1 = cc in omega arith)

pub same_inside : {A : Type 0} {x y : A} → ◌≡◌ {A = Answer _} (Ok x) (Ok y) → x ≡ y
same_inside e = cc

-- both tests of an answer that was got
pub held : {A : Type 0} (d : Bool) (x : Answer A) (w : Refusal) (y : A) → pick d x (Err w) ≡ Ok y → (d ≡ true) × (x ≡ Ok y)
held true x w y e = (refl, e)
held false x w y e = never e

-- a number that lies within the bytes is read
pub number_read : (n : ℕ) (b : List ℕ) (off : ℕ) → off + n ≤ length b → number_at n b off ≡ Ok (little n b off)
unfolding number_at
number_read n b off h = sym (at_most_lem _ _ _ _ _ h refl)

pub number_got : (n : ℕ) (b : List ℕ) (off x : ℕ) → number_at n b off ≡ Ok x → (off + n ≤ length b) × (x ≡ little n b off)
unfolding number_at
number_got n b off x =
    le_cases (λ (a : Answer ℕ). a ≡ Ok x → (off + n ≤ length b) × (x ≡ little n b off)) (λ h e. (h, sym (same_inside e))) (λ h e. never e)

pub span_got : (w : Refusal) (size off len : ℕ) (s : Span) → span_at w size off len ≡ Ok s → (off + len ≤ size) × (s ≡ record { start = off; len = len })
unfolding span_at
span_got w size off len s =
    le_cases (λ (a : Answer Span). a ≡ Ok s → (off + len ≤ size) × (s ≡ record { start = off; len = len })) (λ h e. (h, sym (same_inside e))) (λ h e. never e)

pub fitting_got : (n x : ℕ) → fitting n ≡ Ok x → (n ≤ 2 ^ 64 - 1) × (x ≡ n)
fitting_got n x = le_cases (λ (y : Answer ℕ). y ≡ Ok x → (n ≤ 2 ^ 64 - 1) × (x ≡ n)) (λ h e. (h, sym (same_inside e))) (λ h e. never e)

-- a number read in the first bytes of an image
at_front : (n : ℕ) (image : List ℕ) (len off x : ℕ) (s : Span) → s ≡ record { start = 0; len = len } → off + n ≤ len → number_at n (part_of image s) off ≡ Ok x → little n image off ≡ x
at_front n image len off x s p h e =
    let q : little n (part_of image s) off ≡ little n image off = rw p (part_little n image _ off h ∙ rw zero-add refl) in
    sym q ∙ sym (number_got n (part_of image s) off x e).1

-- ---- what is tested, from what is read

abbrev pub SizeOk : ℕ → Type 0
SizeOk n = (4096 ≤ n) × (n ≤ 65536) × (ones n ≡ 1)

size_taken : (n size : ℕ) → size_ok n ≡ Ok size → SizeOk n × (n ≡ size)
unfolding size_ok
size_taken n size =
    le_cases (λ (a : Answer ℕ). a ≡ Ok size → SizeOk n × (n ≡ size))
    (λ h. le_cases (λ (a : Answer ℕ). a ≡ Ok size → SizeOk n × (n ≡ size))
    (λ k. eq_cases (λ (a : Answer ℕ). a ≡ Ok size → SizeOk n × (n ≡ size)) (λ u e. ((h, k, u), same_inside e)) (λ u e. never e))
    (λ k e. never e))
    (λ h e. never e)

pub record SizeRead (image : List ℕ) (size : ℕ) : Type 0 where
  pub first_bytes : 4096 ≤ length image
  pub magic : little 4 image 32 ≡ 0x4253584E
  pub field : little 4 image 36 ≡ size
  pub taken : SizeOk size

size_read : (image : List ℕ) (size : ℕ) → size_at image ≡ Ok size → SizeRead image size
unfolding size_at size_in
size_read image size e =
    let s = bound (span_at Io (length image) 0 4096) _ size e in
    let w = span_got Io (length image) 0 4096 s.0 s.1.0 in
    let m = held (has_magic (part_of image s.0)) _ NotFound size s.1.1 in
    let n = bound (number_at 4 (part_of image s.0) 36) size_ok size m.1 in
    let t = size_taken n.0 size n.1.1 in
    record {
      first_bytes = omega (arith, w.0);
      magic = at_front 4 image 4096 32 0x4253584E s.0 w.1 (omega arith) (magic_means (part_of image s.0) m.0);
      field = at_front 4 image 4096 36 n.0 s.0 w.1 (omega arith) n.1.0 ∙ t.1;
      taken = rw t.1 at t.0;
    }

pub record ZeroRead (image : List ℕ) (g : Geometry) : Type 0 where
  pub sized : SizeRead image g.reader.block_size
  pub rest : g.reader.block_size ≤ length image
  pub no_tree : g.ring / 2 ^ 31 ≡ 1 → ⊥
  pub fields : block_zero image ≡ g

pub zero_read : (image : List ℕ) (g : Geometry) → geometry_at image ≡ Ok g → ZeroRead image g
unfolding geometry_at geometry_in ring_of block_zero
zero_read image g e =
    let z = bound (size_at image) _ g e in
    let s = bound (span_at Io (length image) 0 z.0) _ g z.1.1 in
    let b = part_of image s.0 in
    let c = bound (number_at 8 b 40) _ g s.1.1 in
    let n = bound (number_at 4 b 104) _ g c.1.1 in
    let d = bound (number_at 8 b 112) _ g n.1.1 in
    let f = size_read image z.0 z.1.0 in
    let w = span_got Io (length image) 0 z.0 s.0 s.1.0 in
    let big : 4096 ≤ z.0 = f.taken.0 in
    let own : Geometry = record { reader = record { block_size = z.0; block_count = c.0 }; ring = n.0; base = d.0 } in
    let q : (n.0 / 2 ^ 31 ≡ 1 → ⊥) × (own ≡ g) =
    eq_cases (λ (a : Answer Geometry). a ≡ Ok g → (n.0 / 2 ^ 31 ≡ 1 → ⊥) × (own ≡ g)) (λ h t. never t) (λ h t. (h, same_inside t)) d.1.1 in
    let k : z.0 ≡ g.reader.block_size = ap (λ (x : Geometry). x.reader.block_size) q.1 in
    let o : n.0 ≡ g.ring = ap (λ (x : Geometry). x.ring) q.1 in
    record {
      sized = rw k at f;
      rest = omega (arith, w.0);
      no_tree = rw o at q.0;
      fields = rw (
        f.field,
        at_front 8 image z.0 40 c.0 s.0 w.1 (omega arith) c.1.0,
        at_front 4 image z.0 104 n.0 s.0 w.1 (omega arith) n.1.0,
        at_front 8 image z.0 112 d.0 s.0 w.1 (omega arith) d.1.0,
      ) q.1;
    }

pub record AreaLies (size : ℕ) (g : Geometry) (start : ℕ) : Type 0 where
  pub product_fits : g.base * g.reader.block_size ≤ 2 ^ 64 - 1
  pub product : start ≡ g.base * g.reader.block_size
  pub area : g.base * g.reader.block_size + g.ring * g.reader.block_size ≤ size

pub area_got : (size : ℕ) (g : Geometry) (start : ℕ) → area_at size g ≡ Ok start → AreaLies size g start
unfolding area_at product_of
area_got size g start e =
    let p = bound (product_of g.base g.reader.block_size) _ start e in
    let s = bound (span_at Io size p.0 (g.ring * g.reader.block_size)) _ start p.1.1 in
    let q : p.0 ≡ start = same_inside s.1.1 in
    let f = fitting_got (g.base * g.reader.block_size) p.0 p.1.0 in
    record {
      product_fits = f.0;
      product = sym q ∙ f.1;
      area = rw f.1 at (span_got Io size p.0 _ s.0 s.1.0).0;
    }

pub read_means : (image : List ℕ) → AreaRead image → BlockZeroRead image
unfolding block_zero
read_means image r =
    let g = r.0 in
    let z = zero_read image g r.2 in
    let s = area_got (length image) g r.1 r.3 in
    let k : little 4 image 36 ≡ g.reader.block_size = z.sized.field in
    let n : little 4 image 104 ≡ g.ring = ap (λ (x : Geometry). x.ring) z.fields in
    let b : little 8 image 112 ≡ g.base = ap (λ (x : Geometry). x.base) z.fields in
    record {
      first_bytes = z.sized.first_bytes;
      magic = z.sized.magic;
      size_from = rw k z.sized.taken.0;
      size_to = rw k z.sized.taken.1;
      one_bit = rw k z.sized.taken.2;
      rest = rw k z.rest;
      no_tree = rw n z.no_tree;
      product_fits = rw (k, b) s.product_fits;
      area = rw (k, n, b) s.area;
    }

-- ---- what is read, from what is tested

module _ (image : List ℕ) (r : BlockZeroRead image) where
  abbrev front : ℕ → Span
  front len = record { start = 0; len = len }

  front_span : (len : ℕ) → len ≤ length image → span_at Io (length image) 0 len ≡ Ok (front len)
  unfolding span_at
  front_span len h = sym (at_most_lem _ _ _ _ _ (omega arith) refl)

  front_number : (n len off : ℕ) → len ≤ length image → off + n ≤ len → number_at n (part_of image (front len)) off ≡ Ok (little n image off)
  front_number n len off h k = part_number n image (front len) off (omega arith) k ∙ rw zero-add (number_read n image off (omega arith))

  size_if : size_at image ≡ Ok (little 4 image 36)
  unfolding size_at size_in size_ok
  size_if =
      let h = r.first_bytes in
      let m : has_magic (part_of image (front 4096)) ≡ true = magic_if (part_of image (front 4096)) (front_number 4 4096 32 h (omega arith) ∙ ap Ok r.magic) in
      rw (front_span 4096 h, front_number 4 4096 36 h (omega arith))
      (sym (picked _ _ _ _ m (at_most_lem _ _ _ _ _ r.size_from (at_most_lem _ _ _ _ _ r.size_to (same _ _ _ _ _ r.one_bit refl)))))

  geometry_if : geometry_at image ≡ Ok (block_zero image)
  unfolding geometry_at geometry_in ring_of block_zero
  geometry_if =
      let n = little 4 image 36 in
      let big = r.size_from in
      let h = r.rest in
      rw (size_if, front_span n h, front_number 8 n 40 h (omega arith), front_number 4 n 104 h (omega arith), front_number 8 n 112 h (omega arith))
      (sym (other _ _ _ _ _ r.no_tree refl))

  area_if : area_at (length image) (block_zero image) ≡ Ok (little 8 image 112 * little 4 image 36)
  unfolding area_at product_of span_at block_zero
  area_if =
      let p : product_of (little 8 image 112) (little 4 image 36) ≡ Ok (little 8 image 112 * little 4 image 36) = sym (at_most_lem _ _ _ _ _ r.product_fits refl) in
      let s : span_at Io (length image) (little 8 image 112 * little 4 image 36) (little 4 image 104 * little 4 image 36) ≡ Ok _ = sym (at_most_lem _ _ _ _ _ r.area refl) in
      rw (p, s)

  pub read_if : AreaRead image
  read_if = (block_zero image, little 8 image 112 * little 4 image 36, geometry_if, area_if)
