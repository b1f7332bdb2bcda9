-- What can be decided: the ranges of a wheel, the length of a table, the number of a channel.
use Rattle.std.specs.Prelude.{ℕ, ◌*◌, List, length}
use Rattle.std.proofs.Math.Decide.{dec_le, dec_lt, ℕ_discrete}
use Rattle.rules.specs.declared.Wheel.{Wheel}
use Rattle.rules.specs.Wheels.{Legal}
use Rattle.rules.specs.Paths.{Chip}
use Rattle.rules.specs.Orders.{Tabled}
use Rattle.rules.specs.Promises.{HasRow}

both : {P Q : Type 0} → Dec P → Dec Q → Dec (P × Q)
both (yes p) (yes q) = yes (p, q)
both (yes p) (no n) = no λ r. n r.1
both (no n) d = no λ r. n r.0

same : {P Q : Type 0} → (P → Q) → (Q → P) → Dec P → Dec Q
same f g (yes p) = yes (f p)
same f g (no n) = no λ q. n (g q)

pub legal_decided : (w : Wheel) → Dec (Legal w)
legal_decided w =
    same
    (λ p. record { n1 = p.0; n64 = p.1.0; s2 = p.1.1.0; s64 = p.1.1.1.0; h = p.1.1.1.1.0; p1 = p.1.1.1.1.1.0; p64 = p.1.1.1.1.1.1 })
    (λ l. (l.n1, (l.n64, (l.s2, (l.s64, (l.h, (l.p1, l.p64)))))))
    (both (dec_le 1 w.n)
    (both (dec_le w.n 64)
    (both (dec_le 2 w.s.0) (both (dec_le w.s.0 64) (both (dec_lt w.h.0 w.s.0) (both (dec_le 1 w.p) (dec_le w.p 64)))))))

pub tabled_decided : (channels : ℕ) (t : List ℕ) → Dec (Tabled channels t)
tabled_decided channels t =
    same (λ p. record { c1 = p.0; c64 = p.1.0; long = p.1.1 }) (λ b. (b.c1, (b.c64, b.long)))
    (both (dec_le 1 channels) (both (dec_le channels 64) (ℕ_discrete (length t) (64 * channels))))

pub row_decided : (chip : Chip) (t : List ℕ) (c : ℕ) → Dec (HasRow chip t c)
row_decided chip t c =
    same (λ p. record { legal = p.0; tabled = p.1.0; inside = p.1.1 }) (λ a. (a.legal, (a.tabled, a.inside)))
    (both (legal_decided chip.wheel) (both (tabled_decided chip.channels t) (dec_lt c chip.channels)))
