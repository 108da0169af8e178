-- Laws for a finite enum: a claim about every item is one computed test over the list of its items, and the claim of a `match` arm that
-- takes several variants is one computed test over the arm's keys.
-- Assumes nothing.
use Prim.Native.Nat.{ℕ, zero, suc}
use mathlib.Core.Path.{◌≡◌, refl, ap, sym, subst, ◌∙◌}
use mathlib.Core.List.{List, [], ◌∷◌, map}
use mathlib.Core.Logic.{inl, inr}
use lib.ListN.{get_or, get_or-map}
use types.Run.{OneOf}
use denote.Enum.Declared.{tag_of}
use Rattle.types.specs.States.{states}
use Rattle.types.specs.Events.{events}
use Rattle.types.specs.CsEvents.{cs_events}
use Rattle.types.specs.Frames.{messages}
use Rattle.types.specs.Kinds.{error_kinds}
use Rattle.types.specs.declared.nmt.states.NmtState.{NmtState}
use Rattle.types.specs.declared.nmt.states.NmtState.TheVariants.{NmtGsOff, NmtGsInitialising, NmtGsResetApplication, NmtGsResetCommunication, NmtGsResetConfiguration, NmtNotActive, NmtPreOperational1, NmtPreOperational2, NmtReadyToOperate, NmtOperational, NmtCsStopped, NmtBasicEthernet}
use Rattle.types.specs.declared.nmt.events.NmtEvent.{NmtEvent}
use Rattle.types.specs.declared.nmt.events.NmtEvent.TheVariants.{StartNode, StopNode, EnterPreOperational2, EnableReadyToOperate, Reset, SwReset, ResetNode, ResetCommunication, ResetConfiguration, EnterEplMode, Timeout, Error, SoAReceived, SocReceived, PowerlinkFrameReceived, CnConfigurationComplete, AllCnsIdentified, ConfigurationCompleteCnsReady, AllMandatoryCnsOperational}
use Rattle.types.specs.declared.frame.cs_state_machine.DllCsEvent.{DllCsEvent}
use Rattle.types.specs.declared.frame.cs_state_machine.DllCsEvent.TheVariants.{Soc, Preq, Pres, Soa, Asnd, SocTimeout}
use Rattle.types.specs.declared.types.MessageType.{MessageType}
use Rattle.types.specs.declared.types.MessageType.TheVariants.{SoC, PReq, PRes, SoA, ASnd}
use Rattle.types.specs.declared.frame.error.kinds.DllErrorKind.{DllErrorKind}
use Rattle.types.specs.declared.frame.error.kinds.DllErrorKind.TheVariants as kind
use Rattle.std.specs.List.{AllByRecursion}
use Rattle.types.specs.contracts.nmt.states.NmtState as NmtStateType
use Rattle.types.specs.contracts.frame.cs_state_machine.DllCsEvent as DllCsEventType
use Rattle.types.specs.contracts.nmt.events.NmtEvent as NmtEventType
use Rattle.types.specs.contracts.types.MessageType as MessageTypeType
use Rattle.types.specs.contracts.frame.error.kinds.DllErrorKind as DllErrorKindType

pub first_same : {B : Type 0} {a b : B} {xs ys : List B} → a ∷ xs ≡ b ∷ ys → a ≡ b
first_same e = cc

pub rest_same : {B : Type 0} {a b : B} {xs ys : List B} → a ∷ xs ≡ b ∷ ys → xs ≡ ys
rest_same e = cc

-- where g and f agree at each of the keys, they agree at a number that is one of them
pub at_keys : {B : Type 0} (g f : ℕ → B) (ks : List ℕ) (n : ℕ) → map g ks ≡ map f ks → OneOf ks n → g n ≡ f n
at_keys g f [] n e h = absurd h
at_keys g f (k ∷ []) n e h = ap g h ∙ first_same e ∙ ap f (sym h)
at_keys g f (k ∷ j ∷ ks) n e (inl h) = ap g h ∙ first_same e ∙ ap f (sym h)
at_keys g f (k ∷ j ∷ ks) n e (inr h) = at_keys g f (j ∷ ks) n (rest_same e) h

-- an enum: the position of an item, all items in order, and that an item is the one at its position
pub record Enum (A : Type 0) : Type 0 where
  pub position : A → ℕ
  pub first : A
  pub items : List A
  pub back : (x : A) → get_or items (position x) first ≡ x

module _ {A B : Type 0} (E : Enum A) (g f : A → B) where
  -- an arm of several variants: what holds at each of its keys holds at the value
  pub arm :
      (ks : List ℕ) (x : A) →
      OneOf ks (E.position x) →
      map (λ (k : ℕ). g (get_or E.items k E.first)) ks ≡ map (λ (k : ℕ). f (get_or E.items k E.first)) ks →
      g x ≡ f x
  arm ks x h e =
      ap g (sym (E.back x)) ∙
      at_keys (λ (k : ℕ). g (get_or E.items k E.first)) (λ (k : ℕ). f (get_or E.items k E.first)) ks (E.position x) e h ∙
      ap f (E.back x)

  get_or_same : (xs : List A) (k : ℕ) (d : A) → map g xs ≡ map f xs → g d ≡ f d → g (get_or xs k d) ≡ f (get_or xs k d)
  get_or_same xs k d e h = cc (get_or-map g xs k d, get_or-map f xs k d)

  -- what holds at each item of the list holds at every item
  pub everywhere : map g E.items ≡ map f E.items → g E.first ≡ f E.first → (x : A) → g x ≡ f x
  everywhere e h x = ap g (sym (E.back x)) ∙ get_or_same E.items (E.position x) E.first e h ∙ ap f (E.back x)

each_get_or : {A : Type 0} (P : A → Type 0) (xs : List A) (k : ℕ) (d : A) → AllByRecursion P xs → P d → P (get_or xs k d)
each_get_or P [] k d h b = b
each_get_or P (x ∷ xs) zero d h b = h.0
each_get_or P (x ∷ xs) (suc k) d h b = each_get_or P xs k d h.1 b

-- the same of any property
pub each_item : {A : Type 0} (E : Enum A) (P : A → Type 0) → AllByRecursion P E.items → P E.first → (x : A) → P x
each_item E P h b x = subst P (E.back x) (each_get_or P E.items (E.position x) E.first h b)

pub state_back : (x : NmtState) → get_or states (tag_of NmtStateType.the_type x) NmtGsOff ≡ x
state_back NmtGsOff = refl
state_back NmtGsInitialising = refl
state_back NmtGsResetApplication = refl
state_back NmtGsResetCommunication = refl
state_back NmtGsResetConfiguration = refl
state_back NmtNotActive = refl
state_back NmtPreOperational1 = refl
state_back NmtPreOperational2 = refl
state_back NmtReadyToOperate = refl
state_back NmtOperational = refl
state_back NmtCsStopped = refl
state_back NmtBasicEthernet = refl

abbrev pub NmtStates : Enum NmtState
NmtStates = record { position = tag_of NmtStateType.the_type; first = NmtGsOff; items = states; back = state_back }

pub event_back : (x : NmtEvent) → get_or events (tag_of NmtEventType.the_type x) StartNode ≡ x
event_back StartNode = refl
event_back StopNode = refl
event_back EnterPreOperational2 = refl
event_back EnableReadyToOperate = refl
event_back Reset = refl
event_back SwReset = refl
event_back ResetNode = refl
event_back ResetCommunication = refl
event_back ResetConfiguration = refl
event_back EnterEplMode = refl
event_back Timeout = refl
event_back Error = refl
event_back SoAReceived = refl
event_back SocReceived = refl
event_back PowerlinkFrameReceived = refl
event_back CnConfigurationComplete = refl
event_back AllCnsIdentified = refl
event_back ConfigurationCompleteCnsReady = refl
event_back AllMandatoryCnsOperational = refl

abbrev pub NmtEvents : Enum NmtEvent
NmtEvents = record { position = tag_of NmtEventType.the_type; first = StartNode; items = events; back = event_back }

pub cs_event_back : (x : DllCsEvent) → get_or cs_events (tag_of DllCsEventType.the_type x) Soc ≡ x
cs_event_back Soc = refl
cs_event_back Preq = refl
cs_event_back Pres = refl
cs_event_back Soa = refl
cs_event_back Asnd = refl
cs_event_back SocTimeout = refl

abbrev pub DllCsEvents : Enum DllCsEvent
DllCsEvents = record { position = tag_of DllCsEventType.the_type; first = Soc; items = cs_events; back = cs_event_back }

pub message_back : (x : MessageType) → get_or messages (tag_of MessageTypeType.the_type x) SoC ≡ x
message_back SoC = refl
message_back PReq = refl
message_back PRes = refl
message_back SoA = refl
message_back ASnd = refl

abbrev pub MessageTypes : Enum MessageType
MessageTypes = record { position = tag_of MessageTypeType.the_type; first = SoC; items = messages; back = message_back }

pub kind_back : (x : DllErrorKind) → get_or error_kinds (tag_of DllErrorKindType.the_type x) kind.LossOfLink ≡ x
kind_back kind.LossOfLink = refl
kind_back kind.BadPhysicalMode = refl
kind_back kind.MacBuffer = refl
kind_back kind.Crc = refl
kind_back kind.Collision = refl
kind_back kind.InvalidFormat = refl
kind_back kind.LossOfSoc = refl
kind_back kind.LossOfSoa = refl
kind_back kind.LossOfPreq = refl
kind_back kind.LossOfPres = refl
kind_back kind.LossOfStatusRes = refl
kind_back kind.CycleTimeExceeded = refl
kind_back kind.LatePres = refl
kind_back kind.SoCJitter = refl
kind_back kind.MsWaitSoc = refl
kind_back kind.MultipleMn = refl
kind_back kind.AddressConflict = refl
kind_back kind.MevAsndTimeout = refl
kind_back kind.UnexpectedEventInState = refl
kind_back kind.PdoMapVersion = refl
kind_back kind.PdoPayloadShort = refl
kind_back kind.HeartbeatTimeout = refl

abbrev pub DllErrorKinds : Enum DllErrorKind
DllErrorKinds = record { position = tag_of DllErrorKindType.the_type; first = kind.LossOfLink; items = error_kinds; back = kind_back }
