-- A text that is said part by part.
use Rattle.std.proofs.Common.{◌≡◌, ℕ, List, ◌∷◌, ◌++◌, sym, ap, ◌∙◌, append_assoc}

pub said_more :
    {X : Type 0} (F : List X → List ℕ) (x : X) (left rest : List X) (part before after whole : List ℕ) →
    left ≡ x ∷ rest →
    F (x ∷ rest) ≡ part ++ F rest →
    after ≡ before ++ part →
    before ++ F left ≡ whole →
    after ++ F rest ≡ whole
said_more F x left rest part before after whole first step said inv =
    ap (λ t. t ++ F rest) said ∙
    append_assoc before part (F rest) ∙ ap (λ t. before ++ t) (sym (ap F first ∙ step)) ∙ inv

pub said_two :
    (start one two a b : List ℕ) → a ≡ start ++ one → b ≡ a ++ two → b ≡ start ++ (one ++ two)
said_two start one two a b p q = q ∙ ap (λ t. t ++ two) p ∙ append_assoc start one two

pub said_three :
    (start one two three a b c : List ℕ) →
    a ≡ start ++ one →
    b ≡ a ++ two →
    c ≡ b ++ three →
    c ≡ start ++ ((one ++ two) ++ three)
said_three start one two three a b c p q r = said_two start (one ++ two) three b c (said_two start one two a b p q) r
