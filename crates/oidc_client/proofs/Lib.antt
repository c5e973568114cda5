mod Pushed
mod QueryValues
mod StandOnce
