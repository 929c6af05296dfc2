-- From one item to the next.
use Rattle.std.proofs.Common.{◌≡◌, ℕ, ◌+◌, ◌≤◌, Bool, true, false, ◌||◌, List, [], ◌∷◌, ◌++◌, length, drop, get_or, refl, sym, ap, ◌∙◌, append_assoc}
use Rattle.std.specs.List.{flat_map}
use Rattle.std.proofs.lemmas.List.{append-nil, drop_all, drop_more}
use Rattle.std.proofs.lemmas.List.Concat.{flat_map-cons}
use Rattle.desk_ops.specs.declared.op.Op.{Op}
use Rattle.desk_codec.specs.Items.{Item, item_ops, item_spelling}
use Rattle.desk_codec.specs.Runs.{is_among, item_at, items_from, runs_feed}
use Rattle.desk_codec.specs.RunSteps.{IsAt, IsWrittenTo, MarksAlso}
use Rattle.desk_codec.proofs.RunChains.{is_among-append}

pub items-skip : (ops done rest : List Op) (op : Op) → is_among op done ≡ true → items_from ops done (op ∷ rest) ≡ items_from ops done rest
unfolding items_from
items-skip ops done rest op e = ap (λ (b : Bool). elim b [ true ↦ items_from ops done rest | false ↦ item_at ops op ∷ items_from ops (done ++ item_ops (item_at ops op)) rest ]) e

pub items-take : (ops done rest : List Op) (op : Op) → is_among op done ≡ false → items_from ops done (op ∷ rest) ≡ item_at ops op ∷ items_from ops (done ++ item_ops (item_at ops op)) rest
unfolding items_from
items-take ops done rest op e = ap (λ (b : Bool). elim b [ true ↦ items_from ops done rest | false ↦ item_at ops op ∷ items_from ops (done ++ item_ops (item_at ops op)) rest ]) e

pub items-end : (ops done : List Op) → items_from ops done [] ≡ []
unfolding items_from
items-end ops done = refl

split-at : (ops : List Op) (i : ℕ) (op : Op) → IsAt ops i op → drop i ops ≡ op ∷ drop (i + 1) ops
split-at ops i op h = drop_more ops i op h.within ∙ ap (λ (o : Op). o ∷ drop (i + 1) ops) (h.is op)

-- the operation at the place is written already
pub at-written : (ops : List Op) (marks : List Bool) (bytes : List ℕ) (i : ℕ) (op : Op) → IsAt ops i op → IsWrittenTo ops marks bytes i → get_or marks i false ≡ true → IsWrittenTo ops marks bytes (i + 1)
at-written ops marks bytes i op at h e =
    let there : is_among op h.written ≡ true = ap (λ (o : Op). is_among o h.written) (sym (at.is op)) ∙ sym (h.marked i op at.within) ∙ e in
    let rest : items_from ops h.written (drop (i + 1) ops) ≡ items_from ops h.written (drop i ops) = sym (ap (items_from ops h.written) (split-at ops i op at) ∙ items-skip ops h.written (drop (i + 1) ops) op there) in
    record { written = h.written; size = h.size; marked = h.marked; rest = ap (λ (l : List Item). bytes ++ flat_map item_spelling l) rest ∙ h.rest }

-- or its item is written now
pub at-item : (ops : List Op) (marks after : List Bool) (bytes more : List ℕ) (i : ℕ) (op : Op) (item : Item) → IsAt ops i op → IsWrittenTo ops marks bytes i → get_or marks i false ≡ false → item_at ops op ≡ item → MarksAlso ops marks after (item_ops item) → more ≡ bytes ++ item_spelling item → IsWrittenTo ops after more (i + 1)
at-item ops marks after bytes more i op item at h e is also put =
    let there : is_among op h.written ≡ false = ap (λ (o : Op). is_among o h.written) (sym (at.is op)) ∙ sym (h.marked i op at.within) ∙ e in
    let rest : items_from ops h.written (drop i ops) ≡ item ∷ items_from ops (h.written ++ item_ops item) (drop (i + 1) ops) =
    ap (items_from ops h.written) (split-at ops i op at) ∙ items-take ops h.written (drop (i + 1) ops) op there ∙ ap (λ (t : Item). t ∷ items_from ops (h.written ++ item_ops t) (drop (i + 1) ops)) is in
    record {
      written = h.written ++ item_ops item;
      size = also.size ∙ h.size;
      marked = λ k d lt. also.each k d lt ∙ ap (λ b. b || is_among (get_or ops k d) (item_ops item)) (h.marked k d lt) ∙ sym (is_among-append (get_or ops k d) h.written (item_ops item));
      rest = ap (λ (l : List ℕ). l ++ flat_map item_spelling (items_from ops (h.written ++ item_ops item) (drop (i + 1) ops))) put
          ∙ append_assoc bytes (item_spelling item) (flat_map item_spelling (items_from ops (h.written ++ item_ops item) (drop (i + 1) ops)))
          ∙ ap (λ (l : List ℕ). bytes ++ l) (sym (ap (flat_map item_spelling) rest ∙ flat_map-cons item_spelling item (items_from ops (h.written ++ item_ops item) (drop (i + 1) ops))))
          ∙ h.rest;
    }

-- all is written
pub at-end : (ops : List Op) (marks : List Bool) (bytes : List ℕ) (i : ℕ) → length ops ≤ i → IsWrittenTo ops marks bytes i → bytes ≡ runs_feed ops
at-end ops marks bytes i le h =
    sym (append-nil bytes) ∙ sym (ap (λ (l : List Op). bytes ++ flat_map item_spelling (items_from ops h.written l)) (drop_all i ops le) ∙ ap (λ (l : List Item). bytes ++ flat_map item_spelling l) (items-end ops h.written)) ∙ h.rest
