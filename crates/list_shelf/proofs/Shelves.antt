-- Pages in frames: what a change of one page, or of one frame, leaves of the others.
use Rattle.std.proofs.Common.{◌≡◌, ◌≢◌, ◌⊎◌, inl, inr, ℕ, zero, suc, ◌+◌, ◌-◌, ◌<◌, ◌≤◌, Bool, true, false, cond, eqb, eq-eqb, List, [], ◌∷◌, ◌++◌, length, get_or, take, drop, set, refl, sym, ap, subst, ◌∙◌, arith, ◌*◌, replicate}
use Rattle.std.specs.List.{insert, remove, All}
use Rattle.std.proofs.lemmas.List.{get_or-set_other, get_or-set_same, set-get_or, get_or_append_left, get_or-drop, get_or-take, length-set, length-append, length-drop, length-take, length-map, drop-drop, take_all, take-take, drop_at, drop-set, drop-replicate, get_or_push, take-append-le, drop-append-le, nil_from_length, ext_get_or}
use Rattle.std.proofs.lemmas.Bool.{cases_eq, eqb-false, eqb-true, false_from_ne_true}
use Rattle.std.proofs.lemmas.List.Edits.{length-insert, length-remove, get_or-insert_at, get_or-insert_above}
use Rattle.std.proofs.lemmas.List.Elements.{All-push}
use Rattle.std.proofs.lemmas.List.Sums.{sum_by-cons, sum_by_push}
use Rattle.list_shelf.specs.declared.frame.Head.{Head}
use Rattle.list_shelf.proofs.Frames.{frame-length}
use Rattle.list_shelf.specs.Shelf.{cut_at}
use Rattle.list_shelf.specs.Shelf.{page_of, pages_of, frame_at, framed, IsWritten, IsHead, AreHeads, uses, frees, IsShelf}

list-ext : {X : Type 0} (xs ys : List X) → length xs ≡ length ys → ((i : ℕ) (d : X) → i < length xs → get_or xs i d ≡ get_or ys i d) → xs ≡ ys
list-ext [] ys e h = sym (nil_from_length ys (sym e))
list-ext (x ∷ xs) ys e h = ext_get_or x (x ∷ xs) ys e (λ i l. h i x l)

-- ---- how many pages lie in a frame

pub uses-cons : {X S : Type 0} (f : ℕ) (h : Head X S) (heads : List (Head X S)) → uses f (h ∷ heads) ≡ cond (eqb h.frame f) 1 0 + uses f heads
uses-cons f h heads = sum_by-cons (λ head. cond (eqb head.frame f) 1 0) h heads

yes : (n f : ℕ) → n ≡ f → ◌≡◌ {A = ℕ} (cond (eqb n f) 1 0) 1
yes n f e = ap (λ (t : Bool). cond t 1 0) (eq-eqb n f e)

-- a frame of one of them is used
uses-some : {X S : Type 0} (heads : List (Head X S)) (p : ℕ) (d : Head X S) → p < length heads → 1 ≤ uses (get_or heads p d).frame heads
uses-some [] p d l = absurd (omega arith)
uses-some (h ∷ heads) zero d l =
    let a = uses-cons h.frame h heads in
    let b = yes h.frame h.frame refl in
    let c : 1 ≤ uses h.frame (h ∷ heads) = omega (arith, a, b) in
    c
uses-some (h ∷ heads) (suc p) d l =
    let f = (get_or heads p d).frame in
    let a = uses-cons f h heads in
    let b = uses-some heads p d (omega arith) in
    omega arith

pub uses-set : {X S : Type 0} (heads : List (Head X S)) (p f : ℕ) (h d : Head X S) → p < length heads → h.frame ≡ (get_or heads p d).frame → uses f (set heads p h) ≡ uses f heads
uses-set [] p f h d l e = absurd (omega arith)
uses-set (k ∷ heads) zero f h d l e = uses-cons f h heads ∙ ap (λ (n : ℕ). cond (eqb n f) 1 0 + uses f heads) e ∙ sym (uses-cons f k heads)
uses-set (k ∷ heads) (suc p) f h d l e = uses-cons f k (set heads p h) ∙ ap (λ (n : ℕ). cond (eqb k.frame f) 1 0 + n) (uses-set heads p f h d (omega arith) e) ∙ sym (uses-cons f k heads)

pub uses-insert : {X S : Type 0} (heads : List (Head X S)) (p f : ℕ) (h : Head X S) → p ≤ length heads → uses f (insert heads p h) ≡ uses f heads + cond (eqb h.frame f) 1 0
uses-insert heads zero f h l = uses-cons f h heads ∙ omega arith
uses-insert [] (suc p) f h l = absurd (omega arith)
uses-insert (k ∷ heads) (suc p) f h l =
    let a = uses-cons f k (insert heads p h) in
    let b = uses-cons f k heads in
    let c = uses-insert heads p f h (omega arith) in
    a ∙ omega (arith, b, c)

pub uses-remove : {X S : Type 0} (heads : List (Head X S)) (p f : ℕ) (d : Head X S) → p < length heads → uses f (remove heads p) + cond (eqb (get_or heads p d).frame f) 1 0 ≡ uses f heads
uses-remove [] p f d l = absurd (omega arith)
uses-remove (k ∷ heads) zero f d l = let a = uses-cons f k heads in omega arith
uses-remove (k ∷ heads) (suc p) f d l =
    let a = uses-cons f k (remove heads p) in
    let b = uses-cons f k heads in
    let c = uses-remove heads p f d (omega arith) in
    ap (λ (n : ℕ). n + cond (eqb (get_or heads p d).frame f) 1 0) a ∙ omega (arith, b, c)

-- ---- frames of others

-- a frame that they do not use may be written
other-page : {X S : Type 0} (frames : List (List X)) (f : ℕ) (r : List X) (h : Head X S) → eqb h.frame f ≡ false → page_of (set frames f r) h ≡ page_of frames h
other-page frames f r h e = ap (λ (z : List _). take h.len (drop h.start z)) (get_or-set_other frames f h.frame r [] (eqb-false h.frame f e))

unused : (t : Bool) (n : ℕ) → cond t 1 0 + n ≡ 0 → t ≡ false
unused false n e = refl
unused true n e = absurd (omega arith)

head-moved : {X S : Type 0} (sums_up : S → List X → Type 0) (frames new : List (List X)) (h : Head X S) → length frames ≤ length new → page_of new h ≡ page_of frames h → IsHead sums_up frames h → IsHead sums_up new h
head-moved sums_up frames new h l e i = record {
  within = let w = i.within in omega arith;
  few = i.few;
  summed = subst (λ (z : List _). sums_up h.summary z) (sym e) i.summed;
  last = λ some. subst (λ (z : List _). h.last ≡ get_or z (h.len - 1) h.last) (sym e) (i.last some);
}

pub heads-set : {X S : Type 0} (sums_up : S → List X → Type 0) (frames : List (List X)) (heads : List (Head X S)) (f : ℕ) (r : List X) → AreHeads sums_up frames heads → uses f heads ≡ 0 → AreHeads sums_up (set frames f r) heads × (pages_of (set frames f r) heads ≡ pages_of frames heads)
heads-set sums_up frames [] f r a u = (tt, refl)
heads-set sums_up frames (h ∷ heads) f r a u =
    let c = uses-cons f h heads in
    let e = unused (eqb h.frame f) (uses f heads) (sym c ∙ u) in
    let rest = heads-set sums_up frames heads f r a.1 (omega arith) in
    let same = other-page frames f r h e in
    let n = length-set frames f r in
    ((head-moved sums_up frames (set frames f r) h (omega arith) same a.0, rest.0), ap (λ (z : List _). z ∷ pages_of (set frames f r) heads) same ∙ ap (λ (z : List (List _)). page_of frames h ∷ z) rest.1)

pub heads-push : {X S : Type 0} (sums_up : S → List X → Type 0) (frames : List (List X)) (heads : List (Head X S)) (r : List X) → AreHeads sums_up frames heads → AreHeads sums_up (frames ++ r ∷ []) heads × (pages_of (frames ++ r ∷ []) heads ≡ pages_of frames heads)
heads-push sums_up frames [] r a = (tt, refl)
heads-push sums_up frames (h ∷ heads) r a =
    let rest = heads-push sums_up frames heads r a.1 in
    let same : page_of (frames ++ r ∷ []) h ≡ page_of frames h = ap (λ (z : List _). take h.len (drop h.start z)) (get_or_append_left frames (r ∷ []) [] h.frame a.0.within) in
    let n = length-append frames (r ∷ []) in
    ((head-moved sums_up frames (frames ++ r ∷ []) h (omega arith) same a.0, rest.0), ap (λ (z : List _). z ∷ pages_of (frames ++ r ∷ []) heads) same ∙ ap (λ (z : List (List _)). page_of frames h ∷ z) rest.1)

-- ---- one page

pub heads-at : {X S : Type 0} (sums_up : S → List X → Type 0) (frames : List (List X)) (heads : List (Head X S)) (p : ℕ) (d : Head X S) → p < length heads → AreHeads sums_up frames heads → IsHead sums_up frames (get_or heads p d) × (get_or (pages_of frames heads) p [] ≡ page_of frames (get_or heads p d))
heads-at sums_up frames [] p d l a = absurd (omega arith)
heads-at sums_up frames (h ∷ heads) zero d l a = (a.0, refl)
heads-at sums_up frames (h ∷ heads) (suc p) d l a = heads-at sums_up frames heads p d (omega arith) a.1

-- a page is written in its frame
pub heads-write : {X S : Type 0} (sums_up : S → List X → Type 0) (frames : List (List X)) (heads : List (Head X S)) (p f : ℕ) (r : List X) (h d : Head X S) → p < length heads → f ≡ (get_or heads p d).frame → uses f heads ≤ 1 → AreHeads sums_up frames heads → IsHead sums_up (set frames f r) h → AreHeads sums_up (set frames f r) (set heads p h) × (pages_of (set frames f r) (set heads p h) ≡ set (pages_of frames heads) p (page_of (set frames f r) h))
heads-write sums_up frames [] p f r h d l e u a i = absurd (omega arith)
heads-write sums_up frames (k ∷ heads) zero f r h d l e u a i =
    let c = uses-cons f k heads in
    let b = yes k.frame f (sym e) in
    let z : uses f heads ≡ 0 = omega (arith, c, b, u) in
    let rest = heads-set sums_up frames heads f r a.1 z in
    ((i, rest.0), ap (λ (z : List (List _)). page_of (set frames f r) h ∷ z) rest.1)
heads-write sums_up frames (k ∷ heads) (suc p) f r h d l e u a i =
    let c = uses-cons f k heads in
    let s : 1 ≤ uses f heads = subst (λ (n : ℕ). 1 ≤ uses n heads) (sym e) (uses-some heads p d (omega arith)) in
    let x = unused (eqb k.frame f) 0 (omega arith) in
    let same = other-page frames f r k x in
    let rest = heads-write sums_up frames heads p f r h d (omega arith) e (omega arith) a.1 i in
    let n = length-set frames f r in
    ((head-moved sums_up frames (set frames f r) k (omega arith) same a.0, rest.0), ap (λ (z : List _). z ∷ pages_of (set frames f r) (set heads p h)) same ∙ ap (λ (z : List (List _)). page_of frames k ∷ z) rest.1)

pub heads-insert : {X S : Type 0} (sums_up : S → List X → Type 0) (frames : List (List X)) (heads : List (Head X S)) (p : ℕ) (h : Head X S) → p ≤ length heads → AreHeads sums_up frames heads → IsHead sums_up frames h → AreHeads sums_up frames (insert heads p h) × (pages_of frames (insert heads p h) ≡ insert (pages_of frames heads) p (page_of frames h))
heads-insert sums_up frames heads zero h l a i = ((i, a), refl)
heads-insert sums_up frames [] (suc p) h l a i = absurd (omega arith)
heads-insert sums_up frames (k ∷ heads) (suc p) h l a i =
    let rest = heads-insert sums_up frames heads p h (omega arith) a.1 i in
    ((a.0, rest.0), ap (λ (z : List (List _)). page_of frames k ∷ z) rest.1)

pub heads-remove : {X S : Type 0} (sums_up : S → List X → Type 0) (frames : List (List X)) (heads : List (Head X S)) (p : ℕ) → p < length heads → AreHeads sums_up frames heads → AreHeads sums_up frames (remove heads p) × (pages_of frames (remove heads p) ≡ remove (pages_of frames heads) p)
heads-remove sums_up frames [] p l a = absurd (omega arith)
heads-remove sums_up frames (k ∷ heads) zero l a = (a.1, refl)
heads-remove sums_up frames (k ∷ heads) (suc p) l a =
    let rest = heads-remove sums_up frames heads p (omega arith) a.1 in
    ((a.0, rest.0), ap (λ (z : List (List _)). page_of frames k ∷ z) rest.1)

-- ---- frames of one piece of memory

pub framed-length : {X : Type 0} (k : ℕ) (cells : List X) → length (framed k cells) ≡ k
framed-length zero cells = refl
framed-length (suc k) cells = ap suc (framed-length k (drop 256 cells))

frame-next : {X : Type 0} (cells : List X) (f : ℕ) → frame_at (drop 256 cells) f ≡ frame_at cells (suc f)
frame-next cells f = ap (λ (z : List _). take 256 z) (drop-drop (256 * f) 256 cells ∙ ap (λ (n : ℕ). drop n cells) (let e : 256 + 256 * f ≡ 256 * suc f = omega arith in e))

pub framed-at : {X : Type 0} (k : ℕ) (cells : List X) (f : ℕ) → f < k → get_or (framed k cells) f [] ≡ frame_at cells f
framed-at zero cells f l = absurd (omega arith)
framed-at (suc k) cells zero l = refl
framed-at (suc k) cells (suc f) l = framed-at k (drop 256 cells) f (omega arith) ∙ frame-next cells f

rest-len : {X : Type 0} (k : ℕ) (cells : List X) → length cells ≡ 256 * suc k → length (drop 256 cells) ≡ 256 * k
rest-len k cells e = let n = length-drop 256 cells in omega arith

same-behind : {X : Type 0} (cells new : List X) → IsWritten cells new 0 → drop 256 new ≡ drop 256 cells
same-behind cells new w = list-ext (drop 256 new) (drop 256 cells) (let a = length-drop 256 new in let b = length-drop 256 cells in let e = w.len in omega arith) (λ i d l. get_or-drop 256 new i d ∙ w.behind (256 + i) d (omega arith) ∙ sym (get_or-drop 256 cells i d))

same-before : {X : Type 0} (cells new : List X) (f : ℕ) → IsWritten cells new (suc f) → take 256 new ≡ take 256 cells
same-before cells new f w = list-ext (take 256 new) (take 256 cells) (let a = length-take 256 new in let b = length-take 256 cells in let e = w.len in omega arith) (λ i d l. let b = length-take 256 new in get_or-take 256 new i d (omega arith) ∙ w.before i d (omega arith) ∙ sym (get_or-take 256 cells i d (omega arith)))

written-next : {X : Type 0} (cells new : List X) (f : ℕ) → IsWritten cells new (suc f) → IsWritten (drop 256 cells) (drop 256 new) f
written-next cells new f w = record {
  len = let a = length-drop 256 new in let b = length-drop 256 cells in let e = w.len in omega arith;
  before = λ i d l. get_or-drop 256 new i d ∙ w.before (256 + i) d (omega arith) ∙ sym (get_or-drop 256 cells i d);
  behind = λ i d l. get_or-drop 256 new i d ∙ w.behind (256 + i) d (omega arith) ∙ sym (get_or-drop 256 cells i d);
}

pub framed-write : {X : Type 0} (k : ℕ) (cells new : List X) (f : ℕ) → IsWritten cells new f → f < k → framed k new ≡ set (framed k cells) f (frame_at new f)
framed-write zero cells new f w l = absurd (omega arith)
framed-write (suc k) cells new zero w l = ap (λ (z : List _). take 256 new ∷ framed k z) (same-behind cells new w)
framed-write (suc k) cells new (suc f) w l =
    ap (λ (z : List _). z ∷ framed k (drop 256 new)) (same-before cells new f w)
    ∙ ap (λ (z : List (List _)). take 256 cells ∷ z) (framed-write k (drop 256 cells) (drop 256 new) f (written-next cells new f w) (omega arith))
    ∙ ap (λ (z : List _). take 256 cells ∷ set (framed k (drop 256 cells)) f z) (frame-next new f)

pub framed-push : {X : Type 0} (k : ℕ) (cells r : List X) → length cells ≡ 256 * k → length r ≡ 256 → framed (suc k) (cells ++ r) ≡ framed k cells ++ r ∷ []
framed-push zero [] r e l = ap (λ (z : List _). z ∷ []) (take_all 256 r (omega arith))
framed-push zero (c ∷ cells) r e l = absurd (omega arith)
framed-push (suc k) cells r e l =
    ap (λ (z : List _). z ∷ framed (suc k) (drop 256 (cells ++ r))) (take-append-le 256 cells r (omega arith))
    ∙ ap (λ (z : List _). take 256 cells ∷ framed (suc k) z) (drop-append-le 256 cells r (omega arith))
    ∙ ap (λ (z : List (List _)). take 256 cells ∷ z) (framed-push k (drop 256 cells) r (rest-len k cells e) l)

-- ---- a shelf

pub there : {X S : Type 0} (frames : List (List X)) (heads : List (Head X S)) (p : ℕ) → p < length (pages_of frames heads) → p < length heads
there frames heads p l = let n = length-map heads (page_of frames) in omega (arith, l, n)

pub behind : {X S : Type 0} (cells : List X) (heads : List (Head X S)) (free : List ℕ) (pages : List (List X)) → pages_of (framed (length heads + length free) cells) heads ≡ pages → length heads ≡ length pages
behind cells heads free pages v = sym (length-map heads (page_of (framed (length heads + length free) cells))) ∙ ap length v

-- page p, and where it lies
pub record At {X S : Type 0} (sums_up : S → List X → Type 0) (cells : List X) (pages : List (List X)) (heads : List (Head X S)) (k p : ℕ) (h : Head X S) : Type 0 where
  pub within : p < length heads
  pub frame : h.frame < k
  pub place : 256 * h.frame + 256 ≤ length cells
  pub few : h.start + h.len ≤ 256
  pub page : get_or pages p [] ≡ take h.len (drop h.start (frame_at cells h.frame))
  pub size : h.len ≡ length (get_or pages p [])
  pub summed : sums_up h.summary (get_or pages p [])
  pub last : 0 < h.len → h.last ≡ get_or (get_or pages p []) (h.len - 1) h.last

pub shelf-at : {X S : Type 0} (sums_up : S → List X → Type 0) (cells : List X) (heads : List (Head X S)) (free : List ℕ) (all : ℕ) (pages : List (List X)) (p : ℕ) (h : Head X S) → pages_of (framed (length heads + length free) cells) heads ≡ pages → IsShelf sums_up cells heads free all → p < length pages → h ≡ get_or heads p h → At sums_up cells pages heads (length heads + length free) p h
shelf-at sums_up cells heads free all pages p h v s m e =
    let k = length heads + length free in
    let l : p < length heads = there (framed k cells) heads p (subst (λ (z : List (List _)). p < length z) (sym v) m) in
    let a = heads-at sums_up (framed k cells) heads p h l s.each in
    let i : IsHead sums_up (framed k cells) h = subst (λ z. IsHead sums_up (framed k cells) z) (sym e) a.0 in
    let w : h.frame < k = let n = framed-length k cells in let b = i.within in omega arith in
    let o = s.laid in
    let same : get_or pages p [] ≡ page_of (framed k cells) h = ap (λ (z : List (List _)). get_or z p []) (sym v) ∙ a.1 ∙ ap (λ (z : Head _ _). page_of (framed k cells) z) (sym e) in
    let page : get_or pages p [] ≡ take h.len (drop h.start (frame_at cells h.frame)) = same ∙ ap (λ (z : List _). take h.len (drop h.start z)) (framed-at k cells h.frame w) in
    record {
      within = l;
      frame = w;
      place = omega arith;
      few = i.few;
      page = page;
      size = let b = ap length page in let c = length-take h.len (drop h.start (frame_at cells h.frame)) in let d = length-drop h.start (frame_at cells h.frame) in let n = frame-length cells h.frame (omega arith) in let f = i.few in omega arith;
      summed = subst (λ (z : List _). sums_up h.summary z) (sym same) i.summed;
      last = λ some. subst (λ (z : List _). h.last ≡ get_or z (h.len - 1) h.last) (sym same) (i.last some);
    }

-- page p is written in its frame, and its head renewed
pub shelf-put : {X S : Type 0} (sums_up : S → List X → Type 0) (cells new : List X) (heads : List (Head X S)) (free : List ℕ) (all : ℕ) (pages : List (List X)) (p : ℕ) (b h : Head X S) (y : List X) → pages_of (framed (length heads + length free) cells) heads ≡ pages → IsShelf sums_up cells heads free all → p < length pages → b ≡ get_or heads p b → IsWritten cells new b.frame → h.frame ≡ b.frame → h.start + h.len ≤ 256 → take h.len (drop h.start (frame_at new b.frame)) ≡ y → sums_up h.summary y → (0 < h.len → h.last ≡ get_or y (h.len - 1) h.last) → IsShelf sums_up new (set heads p h) free all × (pages_of (framed (length (set heads p h) + length free) new) (set heads p h) ≡ set pages p y)
shelf-put sums_up cells new heads free all pages p b h y v s l e w f few is summed last =
    let k = length heads + length free in
    let at = shelf-at sums_up cells heads free all pages p b v s l e in
    let m = length-set heads p h in
    let r = frame_at new b.frame in
    let write : framed k new ≡ set (framed k cells) b.frame r = framed-write k cells new b.frame w at.frame in
    let page : page_of (framed k new) h ≡ y = ap (λ (z : List _). take h.len (drop h.start z)) (ap (λ (n : ℕ). get_or (framed k new) n []) f ∙ framed-at k new b.frame at.frame) ∙ is in
    let i : IsHead sums_up (framed k new) h = record {
      within = let n = framed-length k new in let c = at.frame in omega arith;
      few = few;
      summed = subst (λ (z : List _). sums_up h.summary z) (sym page) summed;
      last = λ some. subst (λ (z : List _). h.last ≡ get_or z (h.len - 1) h.last) (sym page) (last some);
    } in
    let one = s.apart b.frame in
    let hs = heads-write sums_up (framed k cells) heads p b.frame r h b at.within (ap (λ (z : Head _ _). z.frame) e) (omega arith) s.each (subst (λ (z : List (List _)). IsHead sums_up z h) write i) in
    let done : AreHeads sums_up (framed k new) (set heads p h) = subst (λ (z : List (List _)). AreHeads sums_up z (set heads p h)) (sym write) hs.0 in
    let now : pages_of (framed k new) (set heads p h) ≡ set pages p y = ap (λ (z : List (List _)). pages_of z (set heads p h)) write ∙ hs.1 ∙ ap (λ (z : List _). set (pages_of (framed k cells) heads) p z) (ap (λ (z : List (List _)). page_of z h) (sym write) ∙ page) ∙ ap (λ (z : List (List _)). set z p y) v in (
      record {
        each = subst (λ (n : ℕ). AreHeads sums_up (framed (n + length free) new) (set heads p h)) (sym m) done;
        freed = λ i d c. subst (λ (n : ℕ). get_or free i d < n + length free) (sym m) (s.freed i d c);
        apart = λ g. let u = uses-set heads p g h b at.within (f ∙ ap (λ (z : Head _ _). z.frame) e) in let z = s.apart g in omega arith;
        laid = let a = w.len in let o = s.laid in omega arith;
        most = let o = s.most in omega arith;
      },
      ap (λ (n : ℕ). pages_of (framed (n + length free) new) (set heads p h)) m ∙ now,
    )

-- the same, where the head says what is read of the new page
pub shelf-renew : {X S : Type 0} (sums_up : S → List X → Type 0) (cells new : List X) (heads : List (Head X S)) (free : List ℕ) (all : ℕ) (pages : List (List X)) (p a n : ℕ) (b h : Head X S) (items read : List X) → pages_of (framed (length heads + length free) cells) heads ≡ pages → IsShelf sums_up cells heads free all → p < length pages → b ≡ get_or heads p b → IsWritten cells new b.frame → read ≡ new → items ≡ take n (drop a (frame_at read b.frame)) → length items ≡ n → a + n ≤ 256 → h.frame ≡ b.frame → h.start ≡ a → h.len ≡ length items → sums_up h.summary items → (0 < length items → h.last ≡ get_or items (length items - 1) h.last) → IsShelf sums_up new (set heads p h) free all × (pages_of (framed (length (set heads p h) + length free) new) (set heads p h) ≡ set pages p items)
shelf-renew sums_up cells new heads free all pages p a n b h items read v s l e w same is long few f at size summed last =
    shelf-put sums_up cells new heads free all pages p b h items v s l e w f (omega (arith, few, at, size, long))
    ((λ i. take ((size ∙ long) i) (drop (at i) (frame_at new b.frame))) ∙ ap (λ (z : List _). take n (drop a (frame_at z b.frame))) (sym same) ∙ sym is)
    summed
    (λ some. subst (λ (m : ℕ). h.last ≡ get_or items (m - 1) h.last) (sym size) (last (omega (arith, some, size))))

-- ---- the last entry of a page that changes

-- one put in is the last behind all, and else the last stays
pub last-inserted : {X : Type 0} (r : List X) (j n : ℕ) (x last new : X) → n ≡ length r → j ≤ length r → (0 < n → last ≡ get_or r (n - 1) last) → (j ≡ n → new ≡ x) → (j ≢ n → new ≡ last) → new ≡ get_or (insert r j x) (n + 1 - 1) new
last-inserted r j n x last new size inside was end before = go (cases_eq j n)
  where
    go : (j ≡ n) ⊎ (j ≢ n) → new ≡ get_or (insert r j x) (n + 1 - 1) new
    go (inl e) =
        let k : n + 1 - 1 ≡ j = omega arith in
        end e ∙ sym (get_or-insert_at r j x new inside) ∙ ap (λ (m : ℕ). get_or (insert r j x) m new) (sym k)
    go (inr e) =
        let k : n + 1 - 1 ≡ n - 1 + 1 = omega arith in
        let same = subst (λ z. z ≡ get_or r (n - 1) z) (sym (before e)) (was (omega arith)) in
        same ∙ sym (get_or-insert_above r j x new (n - 1) (omega arith) inside) ∙ ap (λ (m : ℕ). get_or (insert r j x) m new) (sym k)

-- one written over the last is the last, and else the last stays
pub last-written : {X : Type 0} (r : List X) (j n : ℕ) (x last new : X) → n ≡ length r → j < length r → (0 < n → last ≡ get_or r (n - 1) last) → (j + 1 ≡ n → new ≡ x) → (j + 1 ≢ n → new ≡ last) → new ≡ get_or (set r j x) (n - 1) new
last-written r j n x last new size inside was end before = go (cases_eq (j + 1) n)
  where
    go : (j + 1 ≡ n) ⊎ (j + 1 ≢ n) → new ≡ get_or (set r j x) (n - 1) new
    go (inl e) =
        let k : n - 1 ≡ j = omega arith in
        end e ∙ sym (get_or-set_same r j x new inside) ∙ ap (λ (m : ℕ). get_or (set r j x) m new) (sym k)
    go (inr e) =
        let same = subst (λ z. z ≡ get_or r (n - 1) z) (sym (before e)) (was (omega arith)) in
        same ∙ sym (get_or-set_other r j (n - 1) x new (λ (k : n - 1 ≡ j). e (omega arith)))

-- an entry is put into page p, or written over one of it, in its frame
pub shelf-changed : {X S : Type 0} (sums_up : S → List X → Type 0) (cells new : List X) (heads : List (Head X S)) (free : List ℕ) (all : ℕ) (pages : List (List X)) (p a n : ℕ) (last : X) (s : S) (b : Head X S) (y : List X) → pages_of (framed (length heads + length free) cells) heads ≡ pages → IsShelf sums_up cells heads free all → p < length pages → b ≡ get_or heads p b → IsWritten cells new b.frame → a + n ≤ 256 → take n (drop a (frame_at new b.frame)) ≡ y → sums_up s y → last ≡ get_or y (n - 1) last → IsShelf sums_up new (set heads p (record { frame = b.frame; start = a; len = n; last = last; summary = s })) free all × (pages_of (framed (length (set heads p (record { frame = b.frame; start = a; len = n; last = last; summary = s })) + length free) new) (set heads p (record { frame = b.frame; start = a; len = n; last = last; summary = s })) ≡ set pages p y)
shelf-changed sums_up cells new heads free all pages p a n last s b y v i l e w few is summed at =
    shelf-put sums_up cells new heads free all pages p b (record { frame = b.frame; start = a; len = n; last = last; summary = s }) y v i l e w refl few is summed (λ _. at)

-- page p stands elsewhere in its frame
pub shelf-moved : {X S : Type 0} (sums_up : S → List X → Type 0) (cells new : List X) (heads : List (Head X S)) (free : List ℕ) (all : ℕ) (pages : List (List X)) (p a : ℕ) (b h : Head X S) → pages_of (framed (length heads + length free) cells) heads ≡ pages → IsShelf sums_up cells heads free all → p < length pages → b ≡ get_or heads p b → IsWritten cells new b.frame → h ≡ record { frame = b.frame; start = a; len = b.len; last = b.last; summary = b.summary } → a + b.len ≤ 256 → take b.len (drop a (frame_at new b.frame)) ≡ take b.len (drop b.start (frame_at cells b.frame)) → IsShelf sums_up new (set heads p h) free all × (pages_of (framed (length (set heads p h) + length free) new) (set heads p h) ≡ pages)
shelf-moved sums_up cells new heads free all pages p a b h v s l e w is few same =
    let at = shelf-at sums_up cells heads free all pages p b v s l e in
    let done = shelf-put sums_up cells new heads free all pages p b (record { frame = b.frame; start = a; len = b.len; last = b.last; summary = b.summary }) (get_or pages p []) v s l e w refl few (same ∙ sym at.page) at.summed at.last in
    subst (λ z. IsShelf sums_up new (set heads p z) free all × (pages_of (framed (length (set heads p z) + length free) new) (set heads p z) ≡ pages)) (sym is)
    (done.0, done.1 ∙ set-get_or pages p [])

-- the first n of a page are those of its frame
pub first-of : {X S : Type 0} {sums_up : S → List X → Type 0} (cells : List X) (pages : List (List X)) (heads : List (Head X S)) (k p n : ℕ) (h : Head X S) → At sums_up cells pages heads k p h → n ≤ h.len → take n (drop h.start (frame_at cells h.frame)) ≡ take n (get_or pages p [])
first-of cells pages heads k p n h at l = sym (ap (λ (z : List _). take n z) at.page ∙ take-take n h.len (drop h.start (frame_at cells h.frame)) l)

-- ---- a page is opened, or closed

lt-not-eq : (n f : ℕ) → n < f → eqb n f ≡ false
lt-not-eq n f l = false_from_ne_true (eqb n f) (λ e. let x = eqb-true n f e in absurd (omega arith))

uses-none : {X S : Type 0} (sums_up : S → List X → Type 0) (frames : List (List X)) (heads : List (Head X S)) (f : ℕ) → AreHeads sums_up frames heads → length frames ≤ f → uses f heads ≡ 0
uses-none sums_up frames [] f a l = refl
uses-none sums_up frames (h ∷ heads) f a l =
    let c = uses-cons f h heads in
    let rest = uses-none sums_up frames heads f a.1 l in
    let w = a.0.within in
    let no : eqb h.frame f ≡ false = lt-not-eq h.frame f (omega arith) in
    let x : ◌≡◌ {A = ℕ} (cond (eqb h.frame f) 1 0) 0 = ap {B = ℕ} (λ (t : Bool). cond t 1 0) no in
    omega (arith, c, x, rest)

-- the head of a page that has been opened
head-new : {X S : Type 0} (sums_up : S → List X → Type 0) (k : ℕ) (new : List X) (f a : ℕ) (h : Head X S) (items : List X) → f < k → a < 256 → h.frame ≡ f → h.start ≡ a → h.len ≡ length items → length items ≡ 1 → items ≡ take 1 (drop a (frame_at new f)) → sums_up h.summary items → (0 < length items → h.last ≡ get_or items (length items - 1) h.last) → IsHead sums_up (framed k new) h × (page_of (framed k new) h ≡ items)
head-new sums_up k new f a h items l room e at size one is summed last =
    let n = framed-length k new in
    let page : page_of (framed k new) h ≡ items = (λ i. take ((size ∙ one) i) (drop (at i) (get_or (framed k new) h.frame []))) ∙ ap (λ (z : List _). take 1 (drop a z)) (ap (λ (m : ℕ). get_or (framed k new) m []) e ∙ framed-at k new f l) ∙ sym is in (
      record {
        within = omega arith;
        few = omega arith;
        summed = subst (λ (z : List _). sums_up h.summary z) (sym page) summed;
        last = λ some. subst (λ (z : List _). h.last ≡ get_or z (h.len - 1) h.last) (sym page) (subst (λ (m : ℕ). h.last ≡ get_or items (m - 1) h.last) (sym size) (last (omega arith)));
      },
      page,
    )

frees-push : (g f : ℕ) (rest : List ℕ) → frees g (rest ++ f ∷ []) ≡ frees g rest + cond (eqb f g) 1 0
frees-push g f rest = sum_by_push (λ n. cond (eqb n g) 1 0) rest f

free-frame : (k : ℕ) (free rest : List ℕ) (f : ℕ) → All (λ n. n < k) free → free ≡ rest ++ f ∷ [] → f < k
free-frame k free rest f a e =
    let long : length free ≡ length rest + 1 = ap length e ∙ length-append rest (f ∷ []) in
    subst (λ (n : ℕ). n < k) (ap (λ (z : List ℕ). get_or z (length rest) 0) e ∙ get_or_push rest f 0 (length rest) refl) (a (length rest) 0 (omega arith))

pub free-place : {X S : Type 0} (sums_up : S → List X → Type 0) (cells : List X) (heads : List (Head X S)) (free rest : List ℕ) (all f : ℕ) → IsShelf sums_up cells heads free all → free ≡ rest ++ f ∷ [] → 256 * f + 256 ≤ length cells
free-place sums_up cells heads free rest all f s e = let w = free-frame (length heads + length free) free rest f s.freed e in let o = s.laid in omega arith

-- in a frame that was free
pub shelf-open : {X S : Type 0} (sums_up : S → List X → Type 0) (cells new : List X) (heads : List (Head X S)) (free rest : List ℕ) (all : ℕ) (pages : List (List X)) (p f a : ℕ) (h : Head X S) (items : List X) → pages_of (framed (length heads + length free) cells) heads ≡ pages → IsShelf sums_up cells heads free all → p ≤ length pages → length heads < all → free ≡ rest ++ f ∷ [] → IsWritten cells new f → a < 256 → h.frame ≡ f → h.start ≡ a → h.len ≡ length items → length items ≡ 1 → items ≡ take 1 (drop a (frame_at new f)) → sums_up h.summary items → (0 < length items → h.last ≡ get_or items (length items - 1) h.last) → IsShelf sums_up new (insert heads p h) rest all × (pages_of (framed (length (insert heads p h) + length rest) new) (insert heads p h) ≡ insert pages p items)
shelf-open sums_up cells new heads free rest all pages p f a h items v s l more e w room is from size one read summed last =
    let k = length heads + length free in
    let long : length free ≡ length rest + 1 = ap length e ∙ length-append rest (f ∷ []) in
    let c = length-map heads (page_of (framed k cells)) in
    let within : p ≤ length heads = let d = ap length v in omega arith in
    let m = length-insert heads p h within in
    let inside : f < k = free-frame k free rest f s.freed e in
    let write : framed k new ≡ set (framed k cells) f (frame_at new f) = framed-write k cells new f w inside in
    let none : uses f heads ≡ 0 = let a = s.apart f in let b = ap (λ (z : List ℕ). frees f z) e in let d = frees-push f f rest in let y = yes f f refl in omega (arith, a, b, d, y) in
    let kept = heads-set sums_up (framed k cells) heads f (frame_at new f) s.each none in
    let there = subst (λ (z : List (List _)). AreHeads sums_up z heads × (pages_of z heads ≡ pages_of (framed k cells) heads)) (sym write) kept in
    let head = head-new sums_up k new f a h items inside room is from size one read summed last in
    let done = heads-insert sums_up (framed k new) heads p h within there.0 head.0 in
    let same : length (insert heads p h) + length rest ≡ k = omega arith in (
      record {
        each = subst (λ (n : ℕ). AreHeads sums_up (framed n new) (insert heads p h)) (sym same) done.0;
        freed = λ i d b. subst (λ (n : ℕ). get_or rest i d < n) (sym same) (subst (λ (n : ℕ). n < k) (ap (λ (z : List ℕ). get_or z i d) e ∙ get_or_append_left rest (f ∷ []) d i b) (s.freed i d (omega arith)));
        apart = λ g. let a = s.apart g in let b = ap (λ (z : List ℕ). frees g z) e in let d = frees-push g f rest in let u = uses-insert heads p g h within in let q = ap {B = ℕ} (λ (n : ℕ). cond (eqb n g) 1 0) is in omega (arith, a, b, d, u, q);
        laid = let a = w.len in let b = s.laid in omega arith;
        most = let o = s.most in omega arith;
      },
      ap (λ (n : ℕ). pages_of (framed n new) (insert heads p h)) same ∙ done.1 ∙ ap (λ (z : List (List _)). insert z p (page_of (framed k new) h)) (there.1 ∙ v) ∙ ap (λ (z : List _). insert pages p z) head.1,
    )

apart-new : (t : Bool) (n : ℕ) → n ≤ 1 → (t ≡ true → n ≡ 0) → n + cond t 1 0 ≤ 1
apart-new true n l z = let e = z refl in omega arith
apart-new false n l z = omega arith

-- in a frame behind all others
pub shelf-open-behind : {X S : Type 0} (sums_up : S → List X → Type 0) (cells new r : List X) (heads : List (Head X S)) (free : List ℕ) (all : ℕ) (pages : List (List X)) (p f a : ℕ) (h : Head X S) (items : List X) → pages_of (framed (length heads + length free) cells) heads ≡ pages → IsShelf sums_up cells heads free all → p ≤ length pages → length heads < all → length free ≡ 0 → f ≡ length heads → new ≡ cells ++ r → length r ≡ 256 → a < 256 → h.frame ≡ f → h.start ≡ a → h.len ≡ length items → length items ≡ 1 → items ≡ take 1 (drop a (frame_at new f)) → sums_up h.summary items → (0 < length items → h.last ≡ get_or items (length items - 1) h.last) → IsShelf sums_up new (insert heads p h) free all × (pages_of (framed (length (insert heads p h) + length free) new) (insert heads p h) ≡ insert pages p items)
shelf-open-behind sums_up cells new r heads free all pages p f a h items v s l more zero-free at e wide room is from size one read summed last =
    let k = length heads + length free in
    let c = length-map heads (page_of (framed k cells)) in
    let within : p ≤ length heads = let d = ap length v in omega arith in
    let m = length-insert heads p h within in
    let laid = s.laid in
    let push : framed (suc k) new ≡ framed k cells ++ r ∷ [] = ap (λ (z : List _). framed (suc k) z) e ∙ framed-push k cells r laid wide in
    let kept = heads-push sums_up (framed k cells) heads r s.each in
    let there = subst (λ (z : List (List _)). AreHeads sums_up z heads × (pages_of z heads ≡ pages_of (framed k cells) heads)) (sym push) kept in
    let head = head-new sums_up (suc k) new f a h items (omega arith) room is from size one read summed last in
    let done = heads-insert sums_up (framed (suc k) new) heads p h within there.0 head.0 in
    let same : length (insert heads p h) + length free ≡ suc k = omega arith in
    let n = framed-length k cells in
    let none = nil_from_length free zero-free in (
      record {
        each = subst (λ (z : ℕ). AreHeads sums_up (framed z new) (insert heads p h)) (sym same) done.0;
        freed = λ i d b. absurd (omega arith);
        apart = λ g.
            let a = s.apart g in
            let u = uses-insert heads p g h within in
            let b = ap (λ (z : List ℕ). frees g z) none in
            let q = apart-new (eqb h.frame g) (uses g heads) (omega arith) (λ y. uses-none sums_up (framed k cells) heads g s.each (let x = eqb-true h.frame g y in omega arith)) in
            omega (arith, u, b, q);
        laid = let a = ap length e in let b = length-append cells r in omega arith;
        most = omega arith;
      },
      ap (λ (z : ℕ). pages_of (framed z new) (insert heads p h)) same ∙ done.1 ∙ ap (λ (z : List (List _)). insert z p (page_of (framed (suc k) new) h)) (there.1 ∙ v) ∙ ap (λ (z : List _). insert pages p z) head.1,
    )

pub shelf-close : {X S : Type 0} (sums_up : S → List X → Type 0) (cells : List X) (heads : List (Head X S)) (free : List ℕ) (all : ℕ) (pages : List (List X)) (p : ℕ) (h : Head X S) → pages_of (framed (length heads + length free) cells) heads ≡ pages → IsShelf sums_up cells heads free all → p < length pages → h ≡ get_or heads p h → IsShelf sums_up cells (remove heads p) (free ++ h.frame ∷ []) all × (pages_of (framed (length (remove heads p) + length (free ++ h.frame ∷ [])) cells) (remove heads p) ≡ remove pages p)
shelf-close sums_up cells heads free all pages p h v s l e =
    let k = length heads + length free in
    let at = shelf-at sums_up cells heads free all pages p h v s l e in
    let m = length-remove heads p at.within in
    let n = length-append free (h.frame ∷ []) in
    let same : length (remove heads p) + length (free ++ h.frame ∷ []) ≡ k = omega arith in
    let done = heads-remove sums_up (framed k cells) heads p at.within s.each in (
      record {
        each = subst (λ (z : ℕ). AreHeads sums_up (framed z cells) (remove heads p)) (sym same) done.0;
        freed = λ i d b. subst (λ (z : ℕ). get_or (free ++ h.frame ∷ []) i d < z) (sym same) (All-push (λ (f : ℕ). f < k) free h.frame s.freed at.frame i d b);
        apart = λ g. let a = s.apart g in let u = uses-remove heads p g h at.within in let d = frees-push g h.frame free in let q = ap {B = ℕ} (λ (z : Head _ _). cond (eqb z.frame g) 1 0) e in omega (arith, a, u, d, q);
        laid = let o = s.laid in omega arith;
        most = let o = s.most in omega arith;
      },
      ap (λ (z : ℕ). pages_of (framed z cells) (remove heads p)) same ∙ done.1 ∙ ap (λ (z : List (List _)). remove z p) v,
    )

pub one-set : {X : Type 0} (frame : List X) (a : ℕ) (x : X) → a < length frame → take 1 (drop a (set frame a x)) ≡ x ∷ []
one-set frame a x l = ap (λ (z : List _). take 1 z) (drop-set frame a x l)

one-of : {X : Type 0} (n : ℕ) (x : X) → 0 < n → take 1 (replicate n x) ≡ x ∷ []
one-of zero x l = absurd (omega arith)
one-of (suc n) x l = refl

pub one-behind : {X : Type 0} (cells new : List X) (f a : ℕ) (x : X) → new ≡ cells ++ replicate 256 x → length cells ≡ 256 * f → a < 256 → take 1 (drop a (frame_at new f)) ≡ x ∷ []
one-behind cells new f a x e l room =
    ap (λ (z : List _). take 1 (drop a (frame_at z f))) e ∙ ap (λ (z : List _). take 1 (drop a (take 256 z))) (drop_at cells (replicate 256 x) (256 * f) l)
    ∙ ap (λ (z : List _). take 1 z) (drop-replicate a 256 x) ∙ one-of (256 - a) x (omega arith)

-- there is memory for more
pub shelf-more : {X S : Type 0} (sums_up : S → List X → Type 0) (cells : List X) (heads : List (Head X S)) (free : List ℕ) (all more : ℕ) → IsShelf sums_up cells heads free all → all ≤ more → IsShelf sums_up cells heads free more
shelf-more sums_up cells heads free all more s l = record { each = s.each; freed = s.freed; apart = s.apart; laid = s.laid; most = let o = s.most in omega arith }

-- ---- what two steps come to

pub cut-made : {X : Type 0} (pages : List (List X)) (p : ℕ) (x : X) → p < length pages → length (get_or pages p []) ≡ 256 → set (set (insert pages (suc p) (x ∷ [])) (suc p) (drop 128 (take 256 (get_or (insert pages (suc p) (x ∷ [])) p [])))) p (take 128 (get_or (set (insert pages (suc p) (x ∷ [])) (suc p) (drop 128 (take 256 (get_or (insert pages (suc p) (x ∷ [])) p [])))) p [])) ≡ cut_at pages p
cut-made [] p x l w = absurd (omega arith)
cut-made (r ∷ pages) zero x l w = λ i. take 128 r ∷ drop 128 (take_all 256 r (omega arith) i) ∷ pages
cut-made (r ∷ pages) (suc p) x l w = ap (λ (z : List (List _)). r ∷ z) (cut-made pages p x (omega arith) w)

pub half-size : {X : Type 0} (pages : List (List X)) (p : ℕ) (r : List X) → length (get_or (set pages p (take 128 r)) p []) ≤ 128
half-size [] zero r = omega arith
half-size [] (suc p) r = omega arith
half-size (page ∷ pages) zero r = omega (arith, length-take 128 r)
half-size (page ∷ pages) (suc p) r = half-size pages p r

pub join-made : {X : Type 0} (pages : List (List X)) (p q n m : ℕ) → n ≡ length (get_or pages p []) → m ≡ length (get_or pages q []) → remove (set pages p (take n (get_or pages p []) ++ take m (get_or pages q []))) q ≡ remove (set pages p (get_or pages p [] ++ get_or pages q [])) q
join-made pages p q n m a b = λ i. remove (set pages p (take_all n (get_or pages p []) (omega arith) i ++ take_all m (get_or pages q []) (omega arith) i)) q

first-rest : {X : Type 0} (items : List X) (x : X) → 0 < length items → x ≡ get_or (take 1 items) 0 x → x ∷ drop 1 items ≡ items
first-rest [] x l e = absurd (omega arith)
first-rest (y ∷ items) x l e = ap (λ z. z ∷ items) e

pub push-made : {X : Type 0} (pages : List (List X)) (k : ℕ) (x : X) (items : List X) → k ≡ length pages → 0 < length items → x ≡ get_or (take 1 items) 0 x → set (insert pages k (x ∷ [])) k (get_or (insert pages k (x ∷ [])) k [] ++ drop 1 items) ≡ pages ++ items ∷ []
push-made [] zero x items e l f = ap (λ (z : List _). z ∷ []) (first-rest items x l f)
push-made [] (suc k) x items e l f = absurd (omega arith)
push-made (r ∷ pages) zero x items e l f = absurd (omega arith)
push-made (r ∷ pages) (suc k) x items e l f = ap (λ (z : List (List _)). r ∷ z) (push-made pages k x items (omega arith) l f)
