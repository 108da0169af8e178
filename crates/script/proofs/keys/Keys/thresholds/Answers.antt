-- One threshold behind another.
use Rattle.std.proofs.Common.{◌≡◌, Some, codes, sym}
use Rattle.script.specs.Keys.{texts, keyed32, keyed_thresholds}
use Rattle.script.proofs.keys.Keys.thresholds.Goals as goal

pub returns : goal.returns
unfolding keyed_thresholds
returns c =
    let t1 : keyed32 (codes "collision=") 15 (texts c.args.self.now.words.items) ≡ Some (c.in_ok-bits32.field-0, texts c.bits32.new.self.words.items) = sym c.in_ok-bits32.ensures in
    let t2 : keyed32 (codes "loss_of_soc=") 15 (texts c.bits32.new.self.words.items) ≡ Some (c.in_ok-bits32-2.field-0, texts c.bits32-2.new.self.words.items) = sym c.in_ok-bits32-2.ensures in
    let t3 : keyed32 (codes "loss_of_soa=") 15 (texts c.bits32-2.new.self.words.items) ≡ Some (c.in_ok-bits32-3.field-0, texts c.bits32-3.new.self.words.items) = sym c.in_ok-bits32-3.ensures in
    let t4 : keyed32 (codes "loss_of_preq=") 15 (texts c.bits32-3.new.self.words.items) ≡ Some (c.in_ok-bits32-4.field-0, texts c.bits32-4.new.self.words.items) = sym c.in_ok-bits32-4.ensures in
    let t5 : keyed32 (codes "soc_jitter=") 15 (texts c.bits32-4.new.self.words.items) ≡ Some (c.in_ok-bits32-5.field-0, texts c.bits32-5.new.self.words.items) = sym c.in_ok-bits32-5.ensures in
    let t6 : keyed32 (codes "crc_errors=") 15 (texts c.bits32-5.new.self.words.items) ≡ Some (c.in_ok-bits32-6.field-0, texts c.bits32-6.new.self.words.items) = sym c.in_ok-bits32-6.ensures in
    let t7 : keyed32 (codes "heartbeat_timeout=") 15 (texts c.bits32-6.new.self.words.items) ≡ Some (c.in_ok-bits32-7.field-0, texts c.bits32-7.new.self.words.items) = sym c.in_ok-bits32-7.ensures in
    rw (t1, t2, t3, t4, t5, t6, t7)
