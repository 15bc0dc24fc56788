-- A size carries over to what stands one to one with what was counted.
use Prim.Native.Nat.{ℕ}
use mathlib.Core.Path.{◌≡◌, refl, sym, ap, ◌∙◌, subst}
use mathlib.Core.Logic.{∥∥₁_elim}
use mathlib.Core.HLevel.{⊥_prop}
use mathlib.Core.List.Memᴰ
use mathlib.Core.List.{List, [], ◌∷◌, map, Memᴰ}
use mathlib.Core.List.Pairwise
use mathlib.Core.List.{Nodup}
use lib.ListN.{length-map}
use Rattle.bits.specs.Size.{Size}

module _ {A B : Type 0} (f : A → B) where
  -- what stands in a mapped list comes from something in the list
  pub record ComesFrom (y : B) (l : List A) : Type 0 where
    pub source : A
    pub member : Memᴰ source l
    pub image : f source ≡ y

  comes : {y : B} (l : List A) → Memᴰ y (map f l) → ComesFrom y l
  comes {y = y} [] x' = elim x' [ ]
  comes (x ∷ l) (Memᴰ.head e) = record { source = x; member = Memᴰ.head refl; image = sym e }
  comes (x ∷ l) (Memᴰ.tail m) =
      let rest = comes l m in
      record { source = rest.source; member = Memᴰ.tail rest.member; image = rest.image }

  -- a list of different elements is mapped to one, where the map can be undone on them
  map_once : (g : B → A) (l : List A) → ((x : A) → Memᴰ x l → g (f x) ≡ x) → Nodup l → Nodup (map f l)
  map_once g [] back once = Pairwise.nil
  map_once g (x ∷ l) back (Pairwise.cons apart once) =
      Pairwise.cons
      (λ y m e. ∥∥₁_elim m ⊥_prop (λ k.
      let from = comes l k in
      apart from.source ∣ from.member ∣₁
      (sym (back x (Memᴰ.head refl)) ∙ ap g (e ∙ sym from.image) ∙ back from.source (Memᴰ.tail from.member))))
      (map_once g l (λ z m. back z (Memᴰ.tail m)) once)

-- as many things have Q as have P, where f and g lead from the one to the other and back
pub size_along
    : {A B : Type 0} {P : A → Type 0} {Q : B → Type 0} {n : ℕ} (f : A → B) (g : B → A) → ((x : A) → P x → Q (f x)) → ((y : B) → Q y → P (g y))
    → ((x : A) → P x → g (f x) ≡ x) → ((y : B) → Q y → f (g y) ≡ y) → Size P n → Size Q n
size_along {Q = Q} f g to from back forth size = record {
  listed = map f size.listed;
  once = map_once f g size.listed (λ x m. back x (size.only x m)) size.once;
  each = λ y q. Memᴰ.cast (sym (forth y q)) (Memᴰ.map f (size.each (g y) (from y q)));
  only = λ y m. let c = comes f size.listed m in subst Q c.image (to c.source (size.only c.source c.member));
  many = length-map size.listed f ∙ size.many;
}
